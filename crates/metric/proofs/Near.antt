-- How near a product is to the exact one: within one part in 2 ^ 53, at every unit that fits. Assumes nothing.
--
-- half            a fraction rounded to a whole number is off by half of one at most
-- round_near      a fraction in the normal range, rounded to binary64, is off by one part in 2 ^ 53 at most
-- product_near    so is a whole number of steps times a unit
use Prim.Native.Nat.{ℕ, zero, suc, ◌+◌, ◌*◌, ◌/◌, ◌%◌, ◌^◌, ◌≤◌, ◌<◌, compare, Ordering}
use native.Mathlib.Omega.{arith}
use native.Mathlib.Nat.{le_trans, le_of_eq, add-mul, one-mul, mod-lt, div-add-mod', mul_assoc, mul_comm, mul_right_comm}
use native.Mathlib.Nat.{mul-pos, mul-le-mul_left, mul-le-mul_right, le_of_mul-le-mul_right, le-div_iff_mul-le}
use mathlib.Core.Path.{◌≡◌, sym, ap, ◌∙◌, subst}
use mathlib.Core.Bool.{true, false, not}
use lib.Dec.{T, is_le, compare_is_eq, leb→le, nleb→lt, eqb→eq, lit≤, lit<}
use lib.Pow.{pow-add, pow_pos, pow_mono}
use lib.Ieee.{Float, binary64, round, size, nearest}
use lib.Ieee.Digits.{size_reaches}
use lib.Ieee.Nearest.{closest}
use lib.Ieee.Order.{drop, kept}
use lib.Ieee.Scale.{grid, finite, round_val, round_under, normal_of_fraction}
use lib.Ieee.Positive.{num, den, den_pos, value→cross, own_value}
use Rattle.filling.proofs.InBlock.{most_steps}
use Rattle.metric.specs.Millimetres.{unit_fits, scaled}
use Rattle.metric.specs.inner.Close.{Close}
use Rattle.metric.proofs.Unit.{InRange, fits_range}
use Rattle.metric.proofs.Product.{scaled_is, no_steps, finite_product}

-- twice |q u - n| is at most u
record Half (n u q : ℕ) : Type 0 where
  low : n * 2 ≤ q * u * 2 + u
  high : q * u * 2 ≤ n * 2 + u

half : (n u : ℕ) → 0 < u → Half n u (closest n u)
half n u U = go (compare (n % u * 2) u) (leb→le (n % u * 2) u) (nleb→lt (n % u * 2) u) (eqb→eq (n % u * 2) u)
  where
    whole : n / u * u + n % u ≡ n
    whole = div-add-mod' n u

    less : n % u < u
    less = mod-lt n U

    -- a tie goes up by one or stays
    tie : (e : ℕ) → e ≤ 1 → n % u * 2 ≡ u → Half n u (n / u + e)
    tie e h eq =
        let sum = add-mul (n / u) e u in
        let one = mul-le-mul_right u h in
        record { low = omega (arith, whole); high = omega (arith, whole) }

    go : (o : Ordering) → (T (is_le o) → n % u * 2 ≤ u) → (T (not (is_le o)) → u < n % u * 2) → (T (compare_is_eq o) → n % u * 2 ≡ u)
        → Half n u (nearest (n / u) o)
    go Ordering.lt le gt eq = record { low = omega (arith, whole, le tt); high = omega (arith, whole) }
    go Ordering.eq le gt eq = tie (n / u % 2) (omega arith) (eq tt)
    go Ordering.gt le gt eq = record { low = omega (arith, whole, gt tt, less); high = omega (arith, whole, gt tt) }

-- half of one part in 2 ^ 52
close_half : {n u q : ℕ} → u * 2 ^ 52 ≤ n → Half n u q → Close n (q * u)
close_half small h = record { low = omega (arith, h.low); high = omega (arith, h.high) }

-- both times d, and the other way round
close_times : {n y : ℕ} (d : ℕ) → Close n y → Close (n * d) (y * d)
close_times d h =
    let low = mul-le-mul_right d h.low in
    let high = mul-le-mul_right d h.high in
    record { low = omega arith; high = omega arith }

close_over : (n y d m z : ℕ) → 0 < d → n * d ≡ m → y * d ≡ z → Close m z → Close n y
close_over n y d m z D e f h =
    record {
      low = le_of_mul-le-mul_right {k = d} (omega (arith, h.low)) D;
      high = le_of_mul-le-mul_right {k = d} (omega (arith, h.high)) D;
    }

-- x = a / c rounded; both sides over c and the denominator of x
module _ (a c : ℕ) (C : 0 < c) (normal : 2 ^ 52 * c ≤ a * 2 ^ 1074) (is_finite : T (finite (round binary64 false a c))) where
  abbrev x : Float
  x = round binary64 false a c

  -- in units of the least float: the fraction is n / c, of which the last k digits are dropped; q is kept
  abbrev n : ℕ
  n = a * 2 ^ 1074

  abbrev k : ℕ
  k = drop 53 n c

  abbrev q : ℕ
  q = kept 53 n c

  -- the last digit kept is no more than one part in 2 ^ 52
  digit : c * 2 ^ k * 2 ^ 52 ≤ n
  digit =
      let all : 53 ≤ size (n / c) = normal_of_fraction binary64 a c C normal in
      let reached = (le-div_iff_mul-le C).0 (size_reaches (n / c) (52 + k) (omega arith)) in
      le_trans (le_of_eq (mul_assoc c (2 ^ k) (2 ^ 52) ∙ mul_comm c (2 ^ k * 2 ^ 52)
      ∙ ap (λ (z : ℕ). z * c) (mul_comm (2 ^ k) (2 ^ 52) ∙ sym (pow-add 2 52 k)))) reached

  value : num x * 2 ^ 1074 ≡ q * 2 ^ k * den x
  value = value→cross x (grid binary64 a c) (2 ^ 1074) (round_val binary64 a c (round_under binary64 a c is_finite))

  off : Half n (c * 2 ^ k) q
  off = half n (c * 2 ^ k) (mul-pos C (pow_pos k))

  pub round_near : Close (a * den x) (num x * c)
  round_near =
      let exact : a * den x * 2 ^ 1074 ≡ n * den x = mul_right_comm a (den x) (2 ^ 1074) in
      let rounded : num x * c * 2 ^ 1074 ≡ q * (c * 2 ^ k) * den x =
      mul_right_comm (num x) c (2 ^ 1074)
      ∙ ap (λ (z : ℕ). z * c) value
      ∙ mul_right_comm (q * 2 ^ k) (den x) c
      ∙ ap (λ (z : ℕ). z * den x) (mul_assoc q (2 ^ k) c ∙ ap (λ (z : ℕ). q * z) (mul_comm (2 ^ k) c)) in
      close_over (a * den x) (num x * c) (2 ^ 1074) (n * den x) (q * (c * 2 ^ k) * den x) (pow_pos 1074) exact rounded
      (close_times (den x) (close_half digit off))

-- at any unit that fits
module _ (unit : Float) (fits : unit_fits unit ≡ true) where
  -- the coordinate over the unit's denominator, beside the exact product over its own
  abbrev Nearly : ℕ → Type 0
  Nearly n = Close (n * num unit * den (scaled unit n)) (num (scaled unit n) * den unit)

  range : InRange unit
  range = fits_range unit fits

  -- no steps
  nothing : Nearly 0
  nothing =
      let is : num (scaled unit 0) * 1 ≡ 0 * den (scaled unit 0) = value→cross (scaled unit 0) 0 1 (no_steps unit fits) in
      let none : num (scaled unit 0) * den unit ≡ 0 * den unit = ap (λ (z : ℕ). z * den unit) (omega arith) in
      record { low = omega arith; high = omega arith }

  module _ (n : ℕ) (some : 1 ≤ n) (high : n ≤ most_steps) where
    -- the product is 2 ^ -20 at least, far above where a double loses digits
    normal : 2 ^ 52 * (1 * den unit) ≤ n * num unit * 2 ^ 1074
    normal =
        let once : 1 * num unit ≤ n * num unit = mul-le-mul_right (num unit) some in
        let least : 2 ^ 52 * (1 * den unit) ≤ n * num unit * 2 ^ 72 = omega (arith, range.low) in
        le_trans least (mul-le-mul_left (n * num unit) (pow_mono {i = 72} {j = 1074} (lit≤ tt)))

    is : scaled unit n ≡ round binary64 false (n * num unit) (1 * den unit)
    is = scaled_is n high unit (num unit) (den unit) (den_pos unit) (own_value unit range.above)

    rounded : Close (n * num unit * den (scaled unit n)) (num (scaled unit n) * (1 * den unit))
    rounded =
        subst (λ (x : Float). Close (n * num unit * den x) (num x * (1 * den unit))) (sym is)
        (round_near (n * num unit) (1 * den unit) (mul-pos (lit< tt) (den_pos unit)) normal
        (subst (λ (x : Float). T (finite x)) is (finite_product unit fits n high)))

    something : Nearly n
    something = subst (λ (d : ℕ). Close (n * num unit * den (scaled unit n)) (num (scaled unit n) * d)) (one-mul (den unit)) rounded

  pub product_near : (n : ℕ) → n ≤ most_steps → Nearly n
  product_near zero h = nothing
  product_near (suc n) h = something (suc n) (omega arith) h
