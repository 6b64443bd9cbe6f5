-- A whole number of steps times a unit, in IEEE 754's binary64. Assumes nothing.
--
-- whole_value                  the cast loses nothing
-- product_is                   the product is the exact product of two fractions, rounded once
-- exact_product                at a power of two it is that fraction itself
-- no_steps, product_positive   it is zero, or lies from 2 ^ -20 to 2 ^ 19
-- finite_product               so it is finite
use Prim.Native.Nat.{ℕ, zero, suc, ◌+◌, ◌*◌, ◌^◌, ◌≤◌, ◌<◌}
use native.Mathlib.Omega.{arith}
use native.Mathlib.Nat.{mul-pos, mul-mul-mul_comm, mul_assoc, lt_of_le_of_lt, lt_of_lt_of_le}
use mathlib.Core.Path.{◌≡◌, sym, ap, ◌∙◌, subst}
use mathlib.Core.Bool.{true, false, true≢false}
use lib.IntN.{pos}
use lib.Dec.{T, lit≤, lit<}
use lib.Pow.{pow-add, pow_pos, pow_mono, shl_lt}
use lib.Ieee.{Float, nan, inf, fin, Format, binary64, up, down, round, mul, le, of_int}
use lib.Ieee.Fits.{down_pos}
use lib.Ieee.Exact.{HasValue, round_exact}
use lib.Ieee.Scale.{round_same, finite}
use lib.Ieee.Back.{round_whole}
use lib.Ieee.Order.{le_of_values}
use lib.Ieee.Positive.{num, den, den_pos, positive, positive_of_value, positive-finite, own_value, between, mul_mono}
use Rattle.basics.proofs.Test.{&&-l, &&-r, true_T}
use Rattle.filling.proofs.InBlock.{most_steps}
use Rattle.metric.specs.Millimetres.{least, most, unit_fits, scaled}
use Rattle.metric.proofs.Unit.{InRange, fits_range}

whole_value : (n : ℕ) → n ≤ 2 ^ 53 → HasValue (of_int binary64 (pos n)) false n 1
unfolding of_int
whole_value n h = round_whole binary64 false n h

product_is : (f : Format) (x y : Float) (a c b d : ℕ) → 0 < c → 0 < d → HasValue x false a c → HasValue y false b d
    → mul f x y ≡ round f false (a * b) (c * d)
unfolding mul
product_is f nan y a c b d C D v w = absurd v
product_is f (inf s) y a c b d C D v w = absurd v
product_is f (fin true m e) y a c b d C D v w = absurd (true≢false v.0)
product_is f (fin false m e) nan a c b d C D v w = absurd w
product_is f (fin false m e) (inf t) a c b d C D v w = absurd w
product_is f (fin false m e) (fin true n g) a c b d C D v w = absurd (true≢false w.0)
product_is f (fin false m e) (fin false n g) a c b d C D v w =
    round_same f false (m * up e * (n * up g)) (down e * down g) (a * b) (c * d) (mul-pos (down_pos e) (down_pos g)) (mul-pos C D)
    (mul-mul-mul_comm (m * up e) (n * up g) c d
    ∙ ap (λ (z : ℕ). z * (n * up g * d)) v.1
    ∙ ap (λ (z : ℕ). a * down e * z) w.1
    ∙ mul-mul-mul_comm a (down e) b (down g))

-- the ends: 2 ^ -20 and 2 ^ 19
least_positive : T (positive (scaled least 1))
unfolding scaled mul of_int
least_positive = tt

most_positive : T (positive (scaled most most_steps))
unfolding scaled mul of_int
most_positive = tt

module _ (n : ℕ) (small : n ≤ most_steps) (unit : Float) where
  -- n / 1 times b / d
  pub scaled_is : (b d : ℕ) → 0 < d → HasValue unit false b d → scaled unit n ≡ round binary64 false (n * b) (1 * d)
  unfolding scaled
  scaled_is b d D w = product_is binary64 (of_int binary64 (pos n)) unit n 1 b d (lit< tt) D (whole_value n (omega arith)) w

  pub exact_product : (k : ℕ) → k ≤ 24 → HasValue unit false (2 ^ k) (2 ^ 20) → HasValue (scaled unit n) false (n * 2 ^ k) (2 ^ 20)
  exact_product k h w =
      subst (λ (x : Float). HasValue x false (n * 2 ^ k) (2 ^ 20)) (sym (scaled_is (2 ^ k) (2 ^ 20) (pow_pos 20) w))
      (round_exact binary64 false (n * 2 ^ k) (2 ^ 20) n (k + 1054) (pow_pos 20) (lt_of_le_of_lt small (lit< tt)) fine units)
    where
      fine : n * 2 ^ (k + 1054) < 2 ^ 2098
      fine = lt_of_lt_of_le (shl_lt 16 (k + 1054) (lt_of_le_of_lt small (lit< tt))) (pow_mono {i = 16 + (k + 1054)} {j = 2098} (omega arith))

      units : n * 2 ^ k * 2 ^ 1074 ≡ n * 2 ^ (k + 1054) * 2 ^ 20
      units =
          ap (λ (z : ℕ). n * 2 ^ k * z) (pow-add 2 1054 20)
          ∙ sym (mul_assoc (n * 2 ^ k) (2 ^ 1054) (2 ^ 20))
          ∙ ap (λ (z : ℕ). z * 2 ^ 20) (mul_assoc n (2 ^ k) (2 ^ 1054) ∙ ap (λ (z : ℕ). n * z) (sym (pow-add 2 k 1054)))

-- whole numbers of steps are ordered as floats, and above zero from 1 on
abbrev steps : ℕ → Float
steps n = of_int binary64 (pos n)

module _ (n : ℕ) (high : n ≤ most_steps) where
  own : HasValue (steps n) false n 1
  own = whole_value n (omega arith)

  steps_above : 1 ≤ n → T (positive (steps n))
  steps_above low = positive_of_value (steps n) n 1 own low

  steps_le : (m : ℕ) → m ≤ n → T (le (steps m) (steps n))
  steps_le m h = le_of_values (steps m) (steps n) m 1 n 1 (lit< tt) (lit< tt) (whole_value m (omega arith)) own (omega arith)

-- at any unit that fits
module _ (unit : Float) (fits : unit_fits unit ≡ true) where
  range : InRange unit
  range = fits_range unit fits

  -- nothing times a unit is the positive zero
  pub no_steps : HasValue (scaled unit 0) false 0 1
  no_steps =
      let is = scaled_is 0 (lit≤ tt) unit (num unit) (den unit) (den_pos unit) (own_value unit range.above) in
      subst (λ (x : Float). HasValue x false 0 1) (sym (is ∙ nothing)) (round_whole binary64 false 0 (lit≤ tt))
    where
      nothing : round binary64 false (0 * num unit) (1 * den unit) ≡ round binary64 false 0 1
      nothing = round_same binary64 false (0 * num unit) (1 * den unit) 0 1 (omega (arith, den_pos unit)) (lit< tt) (omega arith)

  -- from 1 step on, the product lies between the least and the most that there are
  module _ (n : ℕ) (low : 1 ≤ n) (high : n ≤ most_steps) where
    not_below : T (le (scaled least 1) (scaled unit n))
    unfolding unit_fits scaled of_int
    not_below =
        mul_mono binary64 (steps 1) (steps n) least unit tt (steps_above n high low) tt range.above (steps_le n high 1 low)
        (&&-l (le least unit) _ (true_T _ fits))

    not_above : T (le (scaled unit n) (scaled most most_steps))
    unfolding unit_fits scaled of_int
    not_above =
        mul_mono binary64 (steps n) (steps most_steps) unit most (steps_above n high low) tt range.above tt
        (steps_le most_steps (lit≤ tt) n high) (&&-r (le least unit) _ (true_T _ fits))

    product_positive : T (positive (scaled unit n))
    product_positive = between (scaled least 1) (scaled unit n) (scaled most most_steps) least_positive most_positive not_below not_above

  pub finite_product : (n : ℕ) → n ≤ most_steps → T (finite (scaled unit n))
  finite_product zero h = of_value (scaled unit 0) no_steps
    where
      of_value : (x : Float) → HasValue x false 0 1 → T (finite x)
      of_value nan v = absurd v
      of_value (inf t) v = absurd v
      of_value (fin t m e) v = tt
  finite_product (suc n) h = positive-finite (scaled unit (suc n)) (product_positive (suc n) (omega arith) h)
