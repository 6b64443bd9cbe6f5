-- How large sums and products of integers are, and that a machine's signed numbers are the integers that they stand for while they stay
-- in their box. Assumes nothing.
use Prim.Native.Nat.{ℕ, zero, suc, ◌+◌, ◌-◌, ◌*◌, ◌^◌, ◌≤◌, ◌<◌}
use native.Mathlib.Omega.{arith}
use native.Mathlib.Nat.{mul-le-mul, lt_of_le_of_lt}
use mathlib.Core.Path.{◌≡◌, refl, sym, ap, ap₂, ◌∙◌, subst}
use mathlib.Core.Bool.{Bool, true, false, cond}
use lib.IntN.{ℤ, pos, negsuc, neg_ℤ, sub_ℕ, nat_abs, ◌+ℤ◌, ◌-ℤ◌, ◌*ℤ◌}
use lib.Signed.{mag, non_neg}
use lib.Dec.{ltb, T, ltb→lt}
use borrow.Author.Tests.{ltb-true}
use mir.Syntax.{w32, w64}
use mir.Val.{Fits, SFits, to_z, of_z}
use mir.ValLaws.{to_z-of_z}
use Rattle.lattice.specs.Axis.{Axis, along_x, along_y, along_z}
use Rattle.triple.specs.declared.Place.{Place}
use Rattle.triple.specs.inner.Places.{Within, InBox, lattice_box, place_box, place_at}

negated : (a : ℤ) → nat_abs (neg_ℤ a) ≡ nat_abs a
negated (pos zero) = refl
negated (pos (suc n)) = refl
negated (negsuc n) = refl

subtracted : (a b : ℕ) → nat_abs (sub_ℕ a b) ≤ a + b
subtracted a b = go (ltb a b) refl
  where
    go : (t : Bool) → ltb a b ≡ t → nat_abs (cond t (negsuc (b - suc a)) (pos (a - b))) ≤ a + b
    go true e = omega (arith, ltb-true a b e)
    go false e = omega arith

summed : (a b : ℤ) → nat_abs (a +ℤ b) ≤ nat_abs a + nat_abs b
summed (pos a) (pos b) = omega arith
summed (pos a) (negsuc b) = subtracted a (suc b)
summed (negsuc a) (pos b) = omega (arith, subtracted b (suc a))
summed (negsuc a) (negsuc b) = omega arith

multiplied : (a b : ℤ) → nat_abs (a *ℤ b) ≡ nat_abs a * nat_abs b
multiplied (pos a) (pos b) = refl
multiplied (pos a) (negsuc b) = negated (pos (a * suc b))
multiplied (negsuc a) (pos b) = negated (pos (suc a * b))
multiplied (negsuc a) (negsuc b) = refl

-- bounds of sums, differences and products
module _ {A B : ℕ} {a b : ℤ} (ha : Within A a) (hb : Within B b) where
  sum_within : Within (A + B) (a +ℤ b)
  sum_within = record { size = omega (arith, summed a b, ha.size, hb.size) }

  difference_within : Within (A + B) (a -ℤ b)
  difference_within = record { size = omega (arith, summed a (neg_ℤ b), negated b, ha.size, hb.size) }

  product_within : Within (A * B) (a *ℤ b)
  product_within = record { size = rw (multiplied a b) (mul-le-mul ha.size hb.size) }

pub wider : {A : ℕ} (B : ℕ) {a : ℤ} → A ≤ B → Within A a → Within B a
wider B h w = record { size = omega (arith, w.size) }

pub nat_within : (A n : ℕ) → n ≤ A → Within A (pos n)
nat_within A n h = record { size = h }

-- a number within a bound fits an i64
fits_within : {A : ℕ} {a : ℤ} → Within A a → T (ltb A (2 ^ 63)) → SFits w64 a
fits_within {A} {a = pos n} h t = record { sfits = lt_of_le_of_lt h.size (ltb→lt A (2 ^ 63) t) }
fits_within {A} {a = negsuc n} h t = record { sfits = omega (arith, ltb→lt A (2 ^ 63) t, h.size) }

-- a machine's number, read back from its bits
abbrev pub back : ℤ → ℤ
back z = to_z w64 (of_z w64 z)

-- x is the integer z, which is within A
pub record Is (A : ℕ) (x z : ℤ) : Type 0 where
  pub eq : x ≡ z
  pub inside : Within A z

pub held : {A : ℕ} {z : ℤ} → Within A z → T (ltb A (2 ^ 63)) → Is A (back z) z
held {A} {z} h t = record { eq = to_z-of_z w64 z (fits_within h t); inside = h }

-- of an expression of such numbers: it fits, and read back it is what it stands for
again : {A : ℕ} {x z : ℤ} → x ≡ z → Within A z → T (ltb A (2 ^ 63)) → Is A (back x) z
again {A} {x} {z} e h t = record { eq = ap (λ (y : ℤ). back y) e ∙ to_z-of_z w64 z (fits_within h t); inside = h }

fits_as : {A : ℕ} {x z : ℤ} → x ≡ z → Within A z → T (ltb A (2 ^ 63)) → SFits w64 x
fits_as {A} {x} {z} e h t = subst (λ (y : ℤ). SFits w64 y) (sym e) (fits_within h t)

module _ {A B : ℕ} {x y a b : ℤ} (p : Is A x a) (q : Is B y b) where
  pub add_is : T (ltb (A + B) (2 ^ 63)) → Is (A + B) (back (x +ℤ y)) (a +ℤ b)
  add_is t = again (ap₂ ◌+ℤ◌ p.eq q.eq) (sum_within p.inside q.inside) t

  pub sub_is : T (ltb (A + B) (2 ^ 63)) → Is (A + B) (back (x -ℤ y)) (a -ℤ b)
  sub_is t = again (ap₂ ◌-ℤ◌ p.eq q.eq) (difference_within p.inside q.inside) t

  pub mul_is : T (ltb (A * B) (2 ^ 63)) → Is (A * B) (back (x *ℤ y)) (a *ℤ b)
  mul_is t = again (ap₂ ◌*ℤ◌ p.eq q.eq) (product_within p.inside q.inside) t

  pub add_fits : T (ltb (A + B) (2 ^ 63)) → SFits w64 (x +ℤ y)
  add_fits t = fits_as (ap₂ ◌+ℤ◌ p.eq q.eq) (sum_within p.inside q.inside) t

  pub sub_fits : T (ltb (A + B) (2 ^ 63)) → SFits w64 (x -ℤ y)
  sub_fits t = fits_as (ap₂ ◌-ℤ◌ p.eq q.eq) (difference_within p.inside q.inside) t

  pub mul_fits : T (ltb (A * B) (2 ^ 63)) → SFits w64 (x *ℤ y)
  mul_fits t = fits_as (ap₂ ◌*ℤ◌ p.eq q.eq) (product_within p.inside q.inside) t

-- a callee's number, read back from its bits, is what the callee promises
pub result_is : (v : ℤ) {z : ℤ} → mag v < 2 ^ 63 → v ≡ z → back v ≡ z
result_is v h e = to_z-of_z w64 v (record { sfits = h }) ∙ e

-- a coordinate of a place in a box, read
pub at : {A : ℕ} {p : Place} → InBox A p → T (ltb A (2 ^ 63)) → (a : Axis) → Is A (back (place_at p a)) (place_at p a)
at h t along_x = held h.in_x t
at h t along_y = held h.in_y t
at h t along_z = held h.in_z t

-- a place from its three coordinates, and the box around it
pub place_is : (f : Axis → ℤ) {x y z : ℤ} → x ≡ f along_x → y ≡ f along_y → z ≡ f along_z → place_at (record { x = x; y = y; z = z }) ≡ f
place_is f {x} {y} {z} ex ey ez = λ i a. by_axis a i
  where
    by_axis : (a : Axis) → place_at (record { x = x; y = y; z = z }) a ≡ f a
    by_axis along_x = ex
    by_axis along_y = ey
    by_axis along_z = ez

pub box_of : {A : ℕ} {x y z a b c : ℤ} → Is A x a → Is A y b → Is A z c → InBox A (record { x = x; y = y; z = z })
box_of p q r = record { in_x = rw p.eq p.inside; in_y = rw q.eq q.inside; in_z = rw r.eq r.inside }

pub box_wider : {p : Place} → InBox lattice_box p → InBox place_box p
box_wider h = record { in_x = more h.in_x; in_y = more h.in_y; in_z = more h.in_z }
  where
    more : {z : ℤ} → Within lattice_box z → Within place_box z
    more w = wider place_box (omega arith) w

-- a number that is not below 0 is cast to a u32
pub cast_up : {z : ℤ} → Within place_box z → z ≡ pos (nat_abs z) → T (non_neg (back z)) × Fits w32 (nat_abs (back z))
cast_up {z} h u =
    subst (λ (x : ℤ). T (non_neg x) × Fits w32 (nat_abs x)) (sym (held h tt).eq) (rw u tt, record { fits = omega (arith, h.size) })
