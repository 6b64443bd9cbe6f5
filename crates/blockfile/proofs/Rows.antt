-- The runs of a cut table: they fit, no byte in them is zero, and laid down they give the table back. Assumes nothing.
use Prim.Native.Nat.{ℕ, ◌+◌, ◌-◌, ◌<◌}
use native.Mathlib.Omega.{arith}
use native.Mathlib.Numerals.{add-one}
use mathlib.Core.Path.{◌≡◌, refl, sym, ap, ap₂, ◌∙◌}
use mathlib.Core.Bool.{Bool, true, false}
use mathlib.Core.List.{List, [], ◌∷◌}
use lib.ListN.{length, drop}
use lib.Dec.{eqb}
use borrow.Author.Tests.{eqb-true, eqb-false}
use Rattle.std.specs.Prelude.{if◌then◌else◌}
use Rattle.blockfile.specs.declared.Run.{Run}
use Rattle.blockfile.specs.Format.{fit, lengths, no_zero, cuts_from}
use Rattle.blockfile.specs.inner.Write.{joined, runs_of, listed}
use Rattle.blockfile.proofs.Left.{zeros_left}
use Rattle.blockfile.proofs.Fitting.{RunFits, fit_head, fit_tail, fit_cons, fit_none, fit_earlier}
use Rattle.blockfile.proofs.Stands.{Stands, stands_second}

-- a non-zero byte at offset o before runs that start after it is a run of its own, or makes the first of them longer
abbrev single : ℕ → Run
single o = record { offset = o; length = 1 }

abbrev longer : ℕ → Run → Run
longer o r = record { offset = o; length = r.length + 1 }

pub joined_fits : (total o : ℕ) (rs : List Run) → o < total → fit total (o + 1) rs ≡ true → fit total o (joined o rs) ≡ true
unfolding joined
joined_fits total o [] h e =
    fit_cons total o (single o) [] (record { filled = omega arith; within = omega arith; after = omega arith }) (fit_none total (o + 1 + 1))
joined_fits total o (r ∷ rs) h e = go (fit_head total (o + 1) r rs e) (eqb r.offset (o + 1)) refl
  where
    go : RunFits total (o + 1) r → (b : Bool) → eqb r.offset (o + 1) ≡ b
        → fit total o (if b then longer o r ∷ rs else single o ∷ r ∷ rs) ≡ true
    go v true q =
        let p = eqb-true r.offset (o + 1) q in
        let m : o + (r.length + 1) + 1 ≡ r.offset + r.length + 1 = omega arith in
        fit_cons total o (longer o r) rs (record { filled = omega arith; within = omega arith; after = omega arith })
        (rw m (fit_tail total (o + 1) r rs e))
    go v false q =
        fit_cons total o (single o) (r ∷ rs) (record { filled = omega arith; within = omega arith; after = omega arith })
        (fit_cons total (o + 1 + 1) r rs
        (record { filled = v.filled; within = v.within; after = omega (arith, eqb-false r.offset (o + 1) q) })
        (fit_tail total (o + 1) r rs e))

joined_lengths : (o : ℕ) (rs : List Run) → lengths (joined o rs) ≡ lengths rs + 1
unfolding joined lengths
joined_lengths o [] = refl
joined_lengths o (r ∷ rs) = go (eqb r.offset (o + 1))
  where
    go : (b : Bool) → lengths (if b then longer o r ∷ rs else single o ∷ r ∷ rs) ≡ r.length + lengths rs + 1
    go true = omega arith
    go false = omega arith

-- the bytes of the joined runs: that byte, and then those of the runs after it
stands_cons : {bytes : List ℕ} {i x : ℕ} {part rest : List ℕ} → Stands bytes i (x ∷ part) rest → drop i bytes ≡ x ∷ drop (i + 1) bytes
stands_cons {x = x} {part = part} w = w.is ∙ ap (λ (l : List ℕ). x ∷ l) (sym (stands_second (x ∷ []) part w 1 refl).is)

joined_cuts : (bytes : List ℕ) (total k i : ℕ) (rs : List Run) {x : ℕ} {part rest : List ℕ} → fit total (k + 1) rs ≡ true
    → Stands bytes i (x ∷ part) rest → cuts_from bytes total k i (joined k rs) ≡ x ∷ cuts_from bytes total (k + 1) (i + 1) rs
unfolding joined cuts_from
joined_cuts bytes total k i [] e w = let z : k - k ≡ 0 = omega arith in rw (z, stands_cons w)
joined_cuts bytes total k i (r ∷ rs) {x} e w = go (eqb r.offset (k + 1)) refl
  where
    go : (b : Bool) → eqb r.offset (k + 1) ≡ b
        → cuts_from bytes total k i (if b then longer k r ∷ rs else single k ∷ r ∷ rs) ≡ x ∷ cuts_from bytes total (k + 1) (i + 1) (r ∷ rs)
    go true q =
        let p = eqb-true r.offset (k + 1) q in
        let z : k - k ≡ 0 = omega arith in
        let y : r.offset - (k + 1) ≡ 0 = omega arith in
        let m : k + (r.length + 1) ≡ r.offset + r.length = omega arith in
        let n : i + (r.length + 1) ≡ i + 1 + r.length = omega arith in
        rw (z, y, m, n, add-one r.length, stands_cons w)
    go false q = let z : k - k ≡ 0 = omega arith in rw (z, stands_cons w)

-- a zero byte before runs that start after it
zero_cuts : (bytes : List ℕ) (total k i : ℕ) (rs : List Run) → k < total → fit total (k + 1) rs ≡ true
    → cuts_from bytes total k i rs ≡ 0 ∷ cuts_from bytes total (k + 1) i rs
unfolding cuts_from
zero_cuts bytes total k i [] h e = zeros_left total k h
zero_cuts bytes total k i (r ∷ rs) h e =
    let v = fit_head total (k + 1) r rs e in
    rw (zeros_left r.offset k (omega arith))

-- a table whose first byte has offset k and which ends at `total`
pub table_fits : (total k : ℕ) (cs : List ℕ) → total ≡ k + length cs → fit total k (runs_of k cs) ≡ true
unfolding runs_of
table_fits total k [] e = fit_none total k
table_fits total k (x ∷ cs) e = go (eqb x 0) (table_fits total (k + 1) cs (omega arith))
  where
    go : (b : Bool) → fit total (k + 1) (runs_of (k + 1) cs) ≡ true
        → fit total k (if b then runs_of (k + 1) cs else joined k (runs_of (k + 1) cs)) ≡ true
    go true f = fit_earlier total (k + 1) k (runs_of (k + 1) cs) (omega arith) f
    go false f = joined_fits total k (runs_of (k + 1) cs) (omega arith) f

pub table_lengths : (k : ℕ) (cs : List ℕ) → lengths (runs_of k cs) ≡ length (listed cs)
unfolding runs_of listed lengths
table_lengths k [] = refl
table_lengths k (x ∷ cs) = go (eqb x 0) (table_lengths (k + 1) cs)
  where
    go : (b : Bool) → lengths (runs_of (k + 1) cs) ≡ length (listed cs)
        → lengths (if b then runs_of (k + 1) cs else joined k (runs_of (k + 1) cs)) ≡ length (if b then listed cs else x ∷ listed cs)
    go true e = e
    go false e = omega (arith, joined_lengths k (runs_of (k + 1) cs))

pub listed_full : (cs : List ℕ) → no_zero (listed cs) ≡ true
unfolding no_zero listed
listed_full [] = refl
listed_full (x ∷ cs) = go (eqb x 0) refl (listed_full cs)
  where
    go : (b : Bool) → eqb x 0 ≡ b → no_zero (listed cs) ≡ true → no_zero (if b then listed cs else x ∷ listed cs) ≡ true
    go true q e = e
    go false q e = rw q e

pub table_back : (bytes : List ℕ) (total k i : ℕ) (cs : List ℕ) {rest : List ℕ} → total ≡ k + length cs → Stands bytes i (listed cs) rest
    → cuts_from bytes total k i (runs_of k cs) ≡ cs
unfolding cuts_from runs_of listed
table_back bytes total k i [] e w = let z : total - k ≡ 0 = omega arith in rw z
table_back bytes total k i (x ∷ cs) {rest} e w = go (eqb x 0) refl (λ j v. table_back bytes total (k + 1) j cs (omega arith) v) w
  where
    fits : fit total (k + 1) (runs_of (k + 1) cs) ≡ true
    fits = table_fits total (k + 1) cs (omega arith)

    go : (b : Bool) → eqb x 0 ≡ b → ((j : ℕ) → Stands bytes j (listed cs) rest → cuts_from bytes total (k + 1) j (runs_of (k + 1) cs) ≡ cs)
        → Stands bytes i (if b then listed cs else x ∷ listed cs) rest
        → cuts_from bytes total k i (if b then runs_of (k + 1) cs else joined k (runs_of (k + 1) cs)) ≡ x ∷ cs
    go true q back v = zero_cuts bytes total k i (runs_of (k + 1) cs) (omega arith) fits ∙ ap₂ ◌∷◌ (sym (eqb-true x 0 q)) (back i v)
    go false q back v =
        joined_cuts bytes total k i (runs_of (k + 1) cs) fits v
        ∙ ap (λ (l : List ℕ). x ∷ l) (back (i + 1) (stands_second (x ∷ []) (listed cs) v 1 refl))
