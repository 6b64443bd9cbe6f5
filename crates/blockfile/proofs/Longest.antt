-- How long a well_formed_law file can be, and that a buffer with one byte more loses nothing: runs never touch, so a file of n points has
-- at most (7n + 1) / 2 of them, and 2 · its length is at most 53n + 17. Within the bench program's limit that is 9,045 bytes.
-- Assumes nothing.
use Prim.Native.Nat.{ℕ, zero, suc, ◌+◌, ◌*◌, ◌<◌, ◌≤◌}
use native.Mathlib.Omega.{arith}
use mathlib.Core.Path.{◌≡◌, refl, sym, ap, ◌∙◌}
use mathlib.Core.Logic.{inl, inr}
use mathlib.Core.Bool.{Bool, true, false, not, ◌&&◌, ◌||◌}
use mathlib.Core.List.{List, [], ◌∷◌}
use lib.IntN.{ℤ}
use lib.ListN.{length, get_or, take}
use lib.Seq.{length-take-le, take_all, get_or-take}
use lib.Dec.{ltb, eqb}
use borrow.Author.Tests.{lt-ltb, le-ltb, ltb-false}
use Rattle.std.specs.Prelude.{if◌then◌else◌}
use Rattle.basics.proofs.Test.{lt_or, false_F}
use Rattle.lattice.specs.declared.Sizes.{Sizes}
use Rattle.lattice.specs.Counts.{Sized, sizes_fit, cells, points}
use Rattle.lattice.proofs.Sized.{fits_sized}
use Rattle.lattice.proofs.Bounds.{product₃}
use Rattle.blockfile.specs.declared.Run.{Run}
use Rattle.blockfile.specs.Format.{
  fit,
  lengths,
  file_sizes,
  runs_from,
  run_count,
  file_runs,
  end,
  well_formed,
  beyond,
  Outcome,
  refusal,
  refused,
  taken,
  read_body,
  read,
  read_whole,
}
use Rattle.blockfile.specs.inner.Needs.{bench_longest}
use Rattle.blockfile.proofs.Fitting.{fit_head, fit_tail}
use Rattle.blockfile.proofs.Parts.{well_formed_law}

runs_count : (bytes : List ℕ) (i n : ℕ) → length (runs_from bytes i n) ≡ n
unfolding runs_from
runs_count bytes i zero = refl
runs_count bytes i (suc n) = ap suc (runs_count bytes (i + 6) n)

-- a byte or more in each run, and a byte or more between two
few_runs : (total least : ℕ) (rs : List Run) → fit total least rs ≡ true → length rs ≤ lengths rs
unfolding lengths
few_runs total least [] e = omega arith
few_runs total least (r ∷ rs) e =
    omega (arith, (fit_head total least r rs e).filled, few_runs total (r.offset + r.length + 1) rs (fit_tail total least r rs e))

runs_apart : (total least : ℕ) (rs : List Run) → least ≤ total + 1 → fit total least rs ≡ true → lengths rs + length rs + least ≤ total + 1
unfolding lengths
runs_apart total least [] h e = omega arith
runs_apart total least (r ∷ rs) h e =
    let w = fit_head total least r rs e in
    let m : r.offset + r.length + 1 ≤ total + 1 = omega arith in
    omega (arith, runs_apart total (r.offset + r.length + 1) rs m (fit_tail total least r rs e))

pub longest : (bytes : List ℕ) (n : ℕ) → well_formed bytes n ≡ true → 2 * end bytes n ≤ 53 * n + 17
unfolding end
longest bytes n e =
    let f = (well_formed_law bytes n e).fits in
    omega (
      arith,
      runs_count bytes (5 + 2 * n) (run_count bytes n),
      few_runs (7 * n) 0 (file_runs bytes n) f,
      runs_apart (7 * n) 0 (file_runs bytes n) (omega arith) f,
    )

-- sizes within the limit
pub record Limited (limit : ℕ) (s : Sizes) : Type 0 where
  pub x : s.nx ≤ limit
  pub y : s.ny ≤ limit
  pub z : s.nz ≤ limit

or_none : (a b : Bool) → (a || b) ≡ false → (a ≡ false) × (b ≡ false)
or_none true b e = absurd (false_F true e tt)
or_none false b e = (refl, e)

pub limited : (limit : ℕ) (s : Sizes) → beyond limit s ≡ false → Limited limit s
unfolding beyond
limited limit s e =
    let u = or_none (ltb limit s.nx) _ e in
    let v = or_none (ltb limit s.ny) _ u.1 in
    record { x = ltb-false _ _ u.0; y = ltb-false _ _ v.0; z = ltb-false _ _ v.1 }

-- no file within the limit has more than `most` bytes
abbrev pub NoLonger : ℕ → ℕ → Type 0
NoLonger limit most = (s : Sizes) → Sized s → Limited limit s → 53 * points s + 17 ≤ 2 * most + 1

-- the bench program's limit is 5: N is at most 341, and 53 · 341 + 17 = 2 · 9,045
pub bench_most : (s : Sizes) → Limited 5 s → points s ≤ 341
unfolding points cells
bench_most s w =
    omega (
      arith,
      product₃ 6 6 6 {a = s.nx + 1} {b = s.ny + 1} {c = s.nz + 1} (omega arith) (omega arith) (omega arith),
      product₃ 5 5 5 w.x w.y w.z,
    )

pub bench_enough : NoLonger 5 bench_longest
bench_enough s z w = omega (arith, bench_most s w)

module _ (samples : List ℤ) (cuts : List ℕ) where
  -- what the reader tests before it looks at the rest of the file, and then the test for what follows
  abbrev tests : Bool → Bool → Bool → Bool → Outcome → Outcome
  tests sized over room roomy rest =
      if not sized then refused samples cuts 1
      else if over then refused samples cuts 12
      else if room then refused samples cuts 12
      else if roomy then refused samples cuts 12
      else rest

  abbrev whole : ℕ → Outcome → Outcome
  whole long o = if eqb o.answer.number 0 && ltb o.answer.end long then refused samples cuts 11 else o

  -- a block that would be taken, but is too long
  in_order : (a b c d w : Bool) (block : Outcome) (long : ℕ) → block.answer.number ≡ 0
      → (a ≡ true → b ≡ false → w ≡ true → block.answer.end < long)
      → whole long (tests a b c d (if not w then refused samples cuts 11 else block)) ≡ tests a b c d (refused samples cuts 11)
  unfolding refusal
  in_order false b c d w block long e h = refl
  in_order true true c d w block long e h = refl
  in_order true false true d w block long e h = refl
  in_order true false false true w block long e h = refl
  in_order true false false false false block long e h = refl
  in_order true false false false true block long e h = simp (e, lt-ltb block.answer.end long (h refl refl refl))

module _ (limit : ℕ) (samples : List ℤ) (cuts : List ℕ) where
  -- what is answered where more bytes follow than any file has
  too_long : Sizes → Outcome
  too_long s =
      tests samples cuts (sizes_fit s) (beyond limit s) (ltb (length samples) (points s)) (ltb (length cuts) (7 * points s))
      (refused samples cuts 11)

  -- m bytes or more, where no file within the limit has as many
  module _ (m : ℕ) (three : 3 ≤ m) (enough : (s : Sizes) → Sized s → Limited limit s → 53 * points s + 17 < 2 * m) where
    long_file : (bytes : List ℕ) → m ≤ length bytes → read_whole bytes limit samples cuts ≡ too_long (file_sizes bytes)
    unfolding read_whole read read_body taken too_long
    long_file bytes h =
        let s = file_sizes bytes in
        rw (le-ltb (length bytes) 3 (omega arith))
        (in_order samples cuts (sizes_fit s) (beyond limit s) (ltb (length samples) (points s)) (ltb (length cuts) (7 * points s))
        (well_formed bytes (points s)) (taken bytes samples cuts s) (length bytes) refl
        (λ a b w. omega (arith, longest bytes (points s) w, enough s (fits_sized s a) (limited limit s b))))

    same_sizes_law : (bytes : List ℕ) → file_sizes (take m bytes) ≡ file_sizes bytes
    unfolding file_sizes
    same_sizes_law bytes =
        let at : (i : ℕ) → i < 3 → get_or (take m bytes) i 0 ≡ get_or bytes i 0 = λ i h. get_or-take m bytes i 0 (omega arith) in
        rw (at 0 (omega arith), at 1 (omega arith), at 2 (omega arith)) refl

    -- a reader that sees the first m bytes alone answers the same
    pub first_bytes : (bytes : List ℕ) → read_whole (take m bytes) limit samples cuts ≡ read_whole bytes limit samples cuts
    first_bytes bytes =
        elim (lt_or m (length bytes)) [
          | inl h ↦
              long_file (take m bytes) (omega (arith, length-take-le m bytes (omega arith)))
              ∙ ap too_long (same_sizes_law bytes)
              ∙ sym (long_file bytes (omega arith))
          | inr h ↦ ap (λ (l : List ℕ). read_whole l limit samples cuts) (take_all m bytes h)
        ]
