-- How large a triple product is: at most 6 D³ where no coordinate of its vectors is further than D from 0.
-- Assumes nothing.
--
--   Within          at most so far from 0
--   parts_within    by the two natural numbers whose difference an integer is
--   triple_within   of a triple product
use Prim.Native.Nat.{ℕ, zero, suc, ◌+◌, ◌*◌, ◌≤◌}
use native.Mathlib.Omega.{arith}
use native.Mathlib.Nat.{mul-le-mul}
use mathlib.Core.Path.{◌≡◌, refl}
use lib.IntN.{ℤ, pos, negsuc, nat_abs, neg_ℤ, ◌+ℤ◌, ◌-ℤ◌, ◌*ℤ◌}
use Rattle.basics.proofs.Integer.{above, beneath, Split, int, ◌⊕◌, ◌⊖◌}
use Rattle.lattice.specs.Axis.{Axis, along_x, along_y, along_z}
use Rattle.geometry.specs.Place.{Place}
use Rattle.geometry.specs.Volume.{cross, dot, triple}

-- a record, so that the two numbers are inferred
pub record Within (n : ℕ) (z : ℤ) : Type 0 where
  pub size : nat_abs z ≤ n

pub parts_within : {n : ℕ} (z : ℤ) (s : Split z) → s.p ≤ s.n + n → s.n ≤ s.p + n → Within n z
parts_within (pos a) s h k = record { size = omega (arith, s.is) }
parts_within (negsuc a) s h k = record { size = omega (arith, s.is) }

-- how far above 0, and how far below
sides : (z : ℤ) → (above z ≤ nat_abs z) × (beneath z ≤ nat_abs z)
sides (pos a) = (omega arith, omega arith)
sides (negsuc a) = (omega arith, omega arith)

negated : (z : ℤ) → nat_abs (neg_ℤ z) ≡ nat_abs z
negated (pos zero) = refl
negated (pos (suc n)) = refl
negated (negsuc n) = refl

multiplied : (a b : ℤ) → nat_abs (a *ℤ b) ≡ nat_abs a * nat_abs b
multiplied (pos a) (pos b) = refl
multiplied (pos a) (negsuc b) = negated (pos (a * suc b))
multiplied (negsuc a) (pos b) = negated (pos (suc a * b))
multiplied (negsuc a) (negsuc b) = refl

module _ {m n : ℕ} {a b : ℤ} (x : Within m a) (y : Within n b) where
  sum_within : Within (m + n) (a +ℤ b)
  sum_within =
      let s = sides a in
      let t = sides b in
      parts_within (a +ℤ b) (int a ⊕ int b) (omega arith) (omega arith)

  difference_within : Within (m + n) (a -ℤ b)
  difference_within =
      let s = sides a in
      let t = sides b in
      parts_within (a -ℤ b) (int a ⊖ int b) (omega arith) (omega arith)

  product_within : Within (m * n) (a *ℤ b)
  product_within = record { size = rw (multiplied a b) (mul-le-mul x.size y.size) }

-- a vector none of whose coordinates is further from 0
abbrev pub Short : ℕ → Place → Type 0
Short n u = (a : Axis) → Within n (u a)

module _ (D : ℕ) (u v w : Place) (x : Short D u) (y : Short D v) (z : Short D w) where
  cross_within : Short (D * D + D * D) (cross v w)
  unfolding cross
  cross_within along_x =
      difference_within (product_within (y along_y) (z along_z)) (product_within (y along_z) (z along_y))
  cross_within along_y =
      difference_within (product_within (y along_z) (z along_x)) (product_within (y along_x) (z along_z))
  cross_within along_z =
      difference_within (product_within (y along_x) (z along_y)) (product_within (y along_y) (z along_x))

  pub triple_within : Within (6 * (D * D * D)) (triple u v w)
  unfolding triple dot
  triple_within =
      let all = sum_within (term along_x) (sum_within (term along_y) (term along_z)) in
      record { size = omega (arith, all.size) }
    where
      term : (a : Axis) → Within (D * (D * D + D * D)) (u a *ℤ cross v w a)
      term a = product_within (x a) (cross_within a)
