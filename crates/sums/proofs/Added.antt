-- The sum and the smallest of the first i rows' six-volumes, and of one more. Assumes nothing.
use Prim.Native.Nat.{ℕ, zero, suc, ◌+◌, ◌*◌, ◌≤◌}
use native.Mathlib.Omega.{arith}
use native.Mathlib.Numerals.{add-one}
use mathlib.Core.Path.{◌≡◌, refl, sym, ap, ap₂, ◌∙◌}
use mathlib.Core.Bool.{Bool, true, false}
use mathlib.Core.List.{List, [], ◌∷◌, ◌++◌, map}
use lib.IntN.{ℤ, pos, ◌+ℤ◌}
use lib.Dec.{ltb, eqb}
use borrow.Author.Tests.{ne_eqb}
use Rattle.std.specs.Prelude.{if◌then◌else◌}
use Rattle.basics.specs.Lists.{from}
use Rattle.stencil.specs.Row.{Row}
use Rattle.filling.specs.Demand.{row_read, rows_read}
use Rattle.boundary.specs.Sum.{sum, least_from, smallest}
use Rattle.boundary.proofs.Sums.{sum_snoc}
use Rattle.boundary.proofs.Smallest.{lesser, smallest_snoc}
use Rattle.bounds.specs.inner.Most.{volume_most}

-- what a range is mapped to, with one number more
range_more : {B : Type 0} (f : ℕ → B) (a n : ℕ) → map f (from a (suc n)) ≡ map f (from a n) ++ (f (a + n) ∷ [])
unfolding from
range_more f a zero = let e : a + 0 ≡ a = omega arith in rw e refl
range_more {B = B} f a (suc n) =
    let e : suc a + n ≡ a + suc n = omega arith in
    ap (λ (l : List B). f a ∷ l) (range_more f (suc a) n ∙ rw e refl)

-- one row more
pub rows_more : (table : List ℕ) (i : ℕ) → rows_read table (i + 1) ≡ rows_read table i ++ (row_read table i ∷ [])
unfolding rows_read
rows_more table i =
    let e : 0 + i ≡ i = omega arith in
    rw (add-one i) (range_more (row_read table) 0 i ∙ ap (λ (k : ℕ). rows_read table i ++ (row_read table k ∷ [])) e)

-- one of two, as a number and as an integer
chosen : (b : Bool) (v least : ℕ) → pos (if b then v else least) ≡ (if b then pos v else pos least)
chosen true v least = refl
chosen false v least = refl

-- i rows were added up
pub record Added (g : Row ℕ → ℤ) (table : List ℕ) (i total least : ℕ) : Type 0 where
  pub sum_is : pos total ≡ sum g (rows_read table i)
  pub least_is : pos least ≡ smallest g (rows_read table i)
  pub most : total ≤ volume_most * i

module _ (g : Row ℕ → ℤ) (table : List ℕ) where
  pub none_added : Added g table 0 0 0
  unfolding rows_read sum smallest from
  none_added = record { sum_is = refl; least_is = refl; most = omega arith }

  -- the smallest of one row, and of one more
  least_first : smallest g (rows_read table 1) ≡ g (row_read table 0)
  unfolding rows_read smallest least_from from
  least_first = refl

  least_more : (i : ℕ) → smallest g (rows_read table (suc i) ++ (row_read table (suc i) ∷ []))
      ≡ lesser (g (row_read table (suc i))) (smallest g (rows_read table (suc i)))
  unfolding rows_read from
  least_more i = smallest_snoc g (map (row_read table) (from 1 i)) (row_read table (suc i)) (row_read table 0)

  least_next : (i least v : ℕ) → pos least ≡ smallest g (rows_read table i) → pos v ≡ g (row_read table i)
      → pos (if eqb i 0 then v else if ltb v least then v else least) ≡ smallest g (rows_read table (i + 1))
  least_next zero least v e f = f ∙ sym least_first
  least_next (suc i) least v e f =
      rw (ne_eqb (suc i) 0 (λ z. omega arith))
      (chosen (ltb v least) v least ∙ ap₂ lesser f e ∙ sym (least_more i) ∙ ap (smallest g) (sym (rows_more table (suc i))))

  pub one_added : {i total least v : ℕ} → Added g table i total least → pos v ≡ g (row_read table i) → v ≤ volume_most
      → Added g table (i + 1) (total + v) (if eqb i 0 then v else if ltb v least then v else least)
  one_added {i} {total} {least} {v} w e h =
      record {
        sum_is = ap₂ ◌+ℤ◌ w.sum_is e ∙ sym (sum_snoc g (rows_read table i) (row_read table i)) ∙ ap (sum g) (sym (rows_more table i));
        least_is = least_next i least v w.least_is e;
        most = omega (arith, w.most, h);
      }
