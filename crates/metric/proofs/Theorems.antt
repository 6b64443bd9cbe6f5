-- What document 02 asks besides the answer itself, of every call (F-1). That cut bytes are below 256, which their type says in code, is
-- said here (`Bytes`); nothing else is assumed.
--
-- `HasValue x false a c` (the kit's `lib.Ieee.Exact`) says of a float x that it is finite, not negative and equal to the fraction a / c:
-- with x = m times 2 ^ e, that m times 2 ^ e times c is a, in whole numbers. `num` and `den` (`lib.Ieee.Positive`) are a finite float as a
-- fraction. `finite` (`lib.Ieee.Scale`): neither a NaN nor an infinity.
--
-- exact           "Where the unit is a power of two .. the product is exact"
-- near            at every unit it is within one part in 2 ^ 53 of the exact one
-- finite_always   no coordinate of any answer is a NaN or an infinity
--
-- And in `Unit`, `fits_range` and `range_fits`: a unit is accepted exactly if, as a fraction, it lies from 1/1,048,576 to 16.
use Prim.Native.Nat.{ℕ, ◌*◌, ◌^◌, ◌≤◌}
use mathlib.Core.Path.{◌≡◌, refl, sym, subst}
use mathlib.Core.Logic.{◌⊎◌, inl, inr}
use mathlib.Core.Bool.{Bool, true, false}
use mathlib.Core.List.{List}
use lib.Dec.{T}
use lib.Ieee.{Float}
use lib.Ieee.Exact.{HasValue}
use lib.Ieee.Scale.{finite}
use lib.Ieee.Positive.{num, den}
use Rattle.lattice.specs.declared.Sizes.{Sizes}
use Rattle.lattice.specs.Axis.{Axis, along_x, along_y, along_z}
use Rattle.moving.specs.Block.{Bytes}
use Rattle.moving.proofs.Bytes.{same_or}
use Rattle.filling.specs.declared.Placed.{Placed}
use Rattle.filling.specs.Located.{locate}
use Rattle.filling.proofs.InBlock.{coordinate, located_small}
use Rattle.metric.specs.declared.PlacedMm.{PlacedMm}
use Rattle.metric.specs.inner.Close.{Close}
use Rattle.metric.specs.Millimetres.{unit_fits, scaled, metric, in_millimetres, locate_mm}
use Rattle.metric.proofs.Cases.{own_refusal, unit_refusal, in_steps, answered}
use Rattle.metric.proofs.Unit.{range_fits, power_range}
use Rattle.metric.proofs.Product.{exact_product, finite_product}
use Rattle.metric.proofs.Near.{product_near}

module _ (s : Sizes) (cuts state : List ℕ) (bytes : Bytes cuts) (id : ℕ) (unit : Float) where
  -- what the place call answers, and what it is in millimetres
  abbrev pub place : Placed
  place = locate s cuts state id

  abbrev pub answer : PlacedMm
  answer = locate_mm s cuts state id unit

  -- The unit is a power of two from 2 ^ -20 to 2 ^ 4: 2 ^ k / 2 ^ 20 (`power_value` in `Unit` has one for each k). Then every place that
  -- the place call answers has an answer in millimetres too, and each coordinate, as a fraction, is the place's whole number times
  -- the unit.
  pub exact : (k : ℕ) → k ≤ 24 → HasValue unit false (2 ^ k) (2 ^ 20) → place.number ≡ 0
      → (answer.number ≡ 0)
      × HasValue answer.point.x false (place.x * 2 ^ k) (2 ^ 20)
      × HasValue answer.point.y false (place.y * 2 ^ k) (2 ^ 20)
      × HasValue answer.point.z false (place.z * 2 ^ k) (2 ^ 20)
  unfolding locate_mm metric
  exact k h v z =
      rw (sym (in_steps unit place z (range_fits unit (power_range unit k h v))))
      (refl, product along_x, product along_y, product along_z)
    where
      product : (a : Axis) → HasValue (scaled unit (coordinate place a)) false (coordinate place a * 2 ^ k) (2 ^ 20)
      product a = exact_product (coordinate place a) (located_small s cuts state bytes id a) unit k h v

  -- A coordinate num / den, beside the exact product, the place's whole number times the unit's own num / den; both over the two
  -- denominators.
  pub near : answer.number ≡ 0
      → Close (place.x * num unit * den answer.point.x) (num answer.point.x * den unit)
      × Close (place.y * num unit * den answer.point.y) (num answer.point.y * den unit)
      × Close (place.z * num unit * den answer.point.z) (num answer.point.z * den unit)
  unfolding locate_mm metric
  near e =
      let (z, fits) = answered unit place e in
      rw (sym (in_steps unit place z fits)) (product fits along_x, product fits along_y, product fits along_z)
    where
      product : unit_fits unit ≡ true → (a : Axis)
          → Close (coordinate place a * num unit * den (scaled unit (coordinate place a))) (num (scaled unit (coordinate place a)) * den unit)
      product fits a = product_near unit fits (coordinate place a) (located_small s cuts state bytes id a)

  -- whatever is asked, at whatever unit
  pub finite_always : T (finite answer.point.x) × T (finite answer.point.y) × T (finite answer.point.z)
  unfolding locate_mm metric
  finite_always = go (same_or place.number 0) (unit_fits unit) refl
    where
      Finite : PlacedMm → Type 0
      Finite r = T (finite r.point.x) × T (finite r.point.y) × T (finite r.point.z)

      go : (place.number ≡ 0) ⊎ (place.number ≡ 0 → ⊥) → (b : Bool) → unit_fits unit ≡ b → Finite (in_millimetres unit place)
      go (inr n) b e = subst Finite (own_refusal unit place n) (tt, tt, tt)
      go (inl z) false e = subst Finite (unit_refusal unit place z e) (tt, tt, tt)
      go (inl z) true e = subst Finite (in_steps unit place z e) (product along_x, product along_y, product along_z)
        where
          product : (a : Axis) → T (finite (scaled unit (coordinate place a)))
          product a = finite_product unit e (coordinate place a) (located_small s cuts state bytes id a)
