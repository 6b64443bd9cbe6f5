-- The node table while it is written: its front holds the nodes so far, what lies between them and the end is spare.
--     sets_before, sets_at                the entries of a table after values were stored in it
--     spare_long, spare_front             the part from an entry on was lent and came back changed
--     filled_none                         before the first node
--     filled_kept, filled_more            the spare part was used for something else; more nodes are written
--     filled_whole                        all is written: nothing is spare
--     overwritten_by                      the front of a table lent and filled
-- Assumes nothing.
use Prim.Native.Nat.{ℕ, zero, suc, ◌+◌, ◌-◌, ◌≤◌, ◌<◌}
use native.Mathlib.Omega.{arith}
use mathlib.Core.Path.{◌≡◌, refl, sym, ap, ◌∙◌}
use mathlib.Core.Logic.{inl, inr}
use mathlib.Core.List.{List, [], ◌∷◌, ◌++◌}
use lib.ListN.{length, get_or, set, take, drop, length-set, length-append, length-drop, get_or-append}
use lib.Seq.{sets, length-take-le, get_or-set_same, get_or-set_other, get_or-append-add, ext_get_or}
use Rattle.basics.specs.inner.Writing.{Wrote}
use Rattle.basics.proofs.Test.{lt_or}
use Rattle.basics.proofs.Part.{back, back_long, back_before}
use Rattle.filling.specs.Fill.{overwritten}
use Rattle.nodes.specs.inner.Rounds.{Filled}
use Rattle.coordinates.proofs.Writing.{wrote_long}

sets_before : (t : List ℕ) (i : ℕ) (vs : List ℕ) (j : ℕ) → j < i → get_or (sets t i vs) j 0 ≡ get_or t j 0
sets_before t i [] j l = refl
sets_before t i (v ∷ vs) j l =
    sets_before (set t i v) (suc i) vs j (omega arith) ∙ get_or-set_other t i j v 0 (λ q. absurd (omega arith))

sets_at : (t : List ℕ) (i : ℕ) (vs : List ℕ) (k : ℕ) → k < length vs → i + length vs ≤ length t
    → get_or (sets t i vs) (i + k) 0 ≡ get_or vs k 0
sets_at t i [] k l h = absurd (omega arith)
sets_at t i (v ∷ vs) zero l h =
    let e : i + 0 ≡ i = omega arith in
    ap (λ (x : ℕ). get_or (sets (set t i v) (suc i) vs) x 0) e
    ∙ sets_before (set t i v) (suc i) vs i (omega arith) ∙ get_or-set_same t i v 0 (omega arith)
sets_at t i (v ∷ vs) (suc k) l h =
    let e : i + suc k ≡ suc i + k = omega arith in
    ap (λ (x : ℕ). get_or (sets (set t i v) (suc i) vs) x 0) e
    ∙ sets_at (set t i v) (suc i) vs k (omega arith) (omega (arith, length-set t i v))

pub filled_none : (old : List ℕ) → Filled [] old old 0
filled_none old = record { long = refl; at_is = refl; front = λ i l. absurd (omega arith) }

-- the part from an entry on was lent and came back changed
module _ (at : ℕ) (xs ys : List ℕ) (l : at ≤ length xs) (e : length ys ≡ length (take (length xs - at) (drop at xs))) where
  fits : at + (length xs - at) ≤ length xs
  fits = omega arith

  same : length ys ≡ length xs - at
  same = e ∙ length-take-le (length xs - at) (drop at xs) (omega (arith, length-drop at xs))

  pub spare_long : length (back at (length xs - at) xs ys) ≡ length xs
  spare_long = back_long at (length xs - at) xs ys fits same

  pub spare_front : (i : ℕ) → i < at → get_or (back at (length xs - at) xs ys) i 0 ≡ get_or xs i 0
  spare_front = back_before at (length xs - at) xs ys fits same

module _ {table old new : List ℕ} {at : ℕ} (f : Filled table old new at) where
  pub filled_kept : {mid : List ℕ} → length mid ≡ length new → ((i : ℕ) → i < at → get_or mid i 0 ≡ get_or new i 0)
      → Filled table old mid at
  filled_kept e k =
      record {
        long = e ∙ f.long;
        at_is = f.at_is;
        front = λ i l. k i (omega (arith, f.at_is)) ∙ f.front i l;
      }

  pub filled_more : {more news : List ℕ} {to : ℕ} → Wrote more new at news to → to ≤ length old → Filled (table ++ more) old news to
  filled_more {more} {news} {to} w l =
      record {
        long = wrote_long w ∙ f.long;
        at_is = omega (arith, w.to_is, f.at_is, length-append table more);
        front = λ i u. ap (λ (x : List ℕ). get_or x i 0) w.now_is ∙ elim (lt_or i (length table)) [
          | inl v ↦
              sets_before new at more i (omega (arith, f.at_is)) ∙ f.front i v ∙ sym (get_or-append table more 0 i v)
          | inr v ↦ written i v (omega (arith, u, length-append table more))
        ];
      }
    where
      written : (i : ℕ) → length table ≤ i → i < length table + length more
          → get_or (sets new at more) i 0 ≡ get_or (table ++ more) i 0
      written i v u =
          let k = i - length table in
          let e : i ≡ at + k = omega (arith, f.at_is) in
          let g : length table + k ≡ i = omega arith in
          ap (λ (x : ℕ). get_or (sets new at more) x 0) e
          ∙ sets_at new at more k (omega arith) (omega (arith, w.to_is, f.long))
          ∙ sym (ap (λ (x : ℕ). get_or (table ++ more) x 0) (sym g) ∙ get_or-append-add table more k 0)

  pub filled_whole : length table ≡ length old → new ≡ table
  filled_whole e = ext_get_or 0 new table (f.long ∙ sym e) (λ i l. f.front i (omega (arith, f.long)))

-- the front of a table lent, and come back with all of another table
pub overwritten_by : {table ys : List ℕ} (nodes : List ℕ) {end : ℕ} → end ≤ length nodes → length ys ≡ length (take end nodes)
    → ys ≡ table → ys ++ drop end nodes ≡ overwritten table nodes
unfolding overwritten
overwritten_by {ys = ys} nodes {end} l e q =
    ap (λ (n : ℕ). ys ++ drop n nodes) (sym (e ∙ length-take-le end nodes l))
    ∙ ap (λ (zs : List ℕ). zs ++ drop (length zs) nodes) q
