-- The call's answer, case by case, and the test of the unit. Assumes nothing.
--
-- fits_low, low_unfit   the unit against the lower end, and what is left to ask
-- own_refusal           a refusal of the place call is handed on
-- unit_refusal          then 13, where the unit does not fit
-- in_steps              else the three products
-- answered              so an answer 0 has a place, and a unit that fits
use native.Mathlib.Omega.{arith}
use mathlib.Core.Path.{◌≡◌, refl, ap, ◌∙◌}
use mathlib.Core.Logic.{◌⊎◌, inl, inr}
use mathlib.Core.Bool.{Bool, true, false}
use lib.Ieee.{Float, le}
use borrow.Author.Tests.{eq-eqb, ne_eqb}
use Rattle.moving.proofs.Bytes.{same_or}
use Rattle.filling.specs.declared.Placed.{Placed}
use Rattle.metric.specs.declared.PlacedMm.{PlacedMm}
use Rattle.metric.specs.Millimetres.{least, most, unit_fits, metric, unplaced_mm, in_millimetres}

module _ (unit : Float) where
  pub fits_low : le least unit ≡ true → le unit most ≡ unit_fits unit
  unfolding unit_fits
  fits_low e = rw e refl

  pub low_unfit : le least unit ≡ false → false ≡ unit_fits unit
  unfolding unit_fits
  low_unfit e = rw e refl

module _ (unit : Float) (p : Placed) where
  pub own_refusal : (p.number ≡ 0 → ⊥) → unplaced_mm p.number ≡ in_millimetres unit p
  unfolding in_millimetres
  own_refusal n = rw (ne_eqb _ _ n) refl

  module _ (z : p.number ≡ 0) where
    pub unit_refusal : unit_fits unit ≡ false → unplaced_mm 13 ≡ in_millimetres unit p
    unfolding in_millimetres
    unit_refusal e = rw (eq-eqb _ _ z, e) refl

    pub in_steps : unit_fits unit ≡ true → record { number = 0; point = metric unit p } ≡ in_millimetres unit p
    unfolding in_millimetres
    in_steps e = rw (eq-eqb _ _ z, e) refl

  pub answered : (in_millimetres unit p).number ≡ 0 → (p.number ≡ 0) × (unit_fits unit ≡ true)
  answered e = go (same_or p.number 0) (unit_fits unit) refl
    where
      go : (p.number ≡ 0) ⊎ (p.number ≡ 0 → ⊥) → (b : Bool) → unit_fits unit ≡ b → (p.number ≡ 0) × (unit_fits unit ≡ true)
      go (inl z) true f = (z, f)
      go (inl z) false f = absurd (omega (arith, ap (λ (r : PlacedMm). r.number) (unit_refusal z f) ∙ e))
      go (inr n) b f = absurd (n (ap (λ (r : PlacedMm). r.number) (own_refusal n) ∙ e))
