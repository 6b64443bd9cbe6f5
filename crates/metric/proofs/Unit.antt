-- The range of the unit, as fractions: a unit fits exactly if it is finite, above zero, and num / den of it lies from 1/1,048,576 to 16.
-- So a power of two from 2 ^ -20 to 2 ^ 4 fits. Assumes nothing.
use Prim.Native.Nat.{ℕ, ◌*◌, ◌^◌, ◌≤◌}
use native.Mathlib.Omega.{arith}
use native.Mathlib.Nat.{one-mul, mul-le-mul_right}
use mathlib.Core.Path.{◌≡◌, refl, ap, ◌∙◌}
use mathlib.Core.Bool.{true, false}
use lib.Dec.{T}
use lib.Pow.{pow_pos, pow_mono}
use lib.Ieee.{Float, fin, down, minus, le}
use lib.Ieee.Digits.{minus_val}
use lib.Ieee.Exact.{HasValue}
use lib.Ieee.Positive.{num, den, positive, between, le→cross, cross→le, positive_of_value, value→cross}
use Rattle.basics.proofs.Test.{&&-l, &&-r, &&-i, T_true, true_T}
use Rattle.metric.specs.Millimetres.{least, most, unit_fits}

pub record InRange (unit : Float) : Type 0 where
  pub above : T (positive unit)
  pub low : den unit ≤ num unit * 1048576
  pub high : num unit ≤ 16 * den unit

-- 2 to the power k - 20
pub power_value : (k : ℕ) → HasValue (fin false 1 (minus k 20)) false (2 ^ k) (2 ^ 20)
power_value k = (refl, minus_val 1 k 20 ∙ ap (λ (n : ℕ). n * down (minus k 20)) (one-mul (2 ^ k)))

module _ (unit : Float) where
  pub fits_range : unit_fits unit ≡ true → InRange unit
  unfolding unit_fits
  fits_range e =
      let low = &&-l (le least unit) _ (true_T _ e) in
      let high = &&-r (le least unit) _ (true_T _ e) in
      let above = between least unit most tt tt low high in
      record {
        above = above;
        low = omega (arith, le→cross least unit tt above low);
        high = omega (arith, le→cross unit most above tt high);
      }

  pub range_fits : InRange unit → unit_fits unit ≡ true
  unfolding unit_fits
  range_fits r =
      T_true _
      (&&-i (le least unit) _ (cross→le least unit tt r.above (omega (arith, r.low)))
      (cross→le unit most r.above tt (omega (arith, r.high))))

  -- 2 ^ k / 2 ^ 20
  pub power_range : (k : ℕ) → k ≤ 24 → HasValue unit false (2 ^ k) (2 ^ 20) → InRange unit
  power_range k h v =
      let is : num unit * 1048576 ≡ 2 ^ k * den unit = value→cross unit (2 ^ k) (2 ^ 20) v in
      let low : 1 * den unit ≤ 2 ^ k * den unit = mul-le-mul_right (den unit) (pow_pos k) in
      let high : 2 ^ k * den unit ≤ 16777216 * den unit = mul-le-mul_right (den unit) (pow_mono {i = k} {j = 24} h) in
      record {
        above = positive_of_value unit (2 ^ k) (2 ^ 20) v (pow_pos k);
        low = omega arith;
        high = omega arith;
      }
