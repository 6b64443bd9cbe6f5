-- The numbers of a block of sizes 1 to 64 are small. Assumes nothing.
use Prim.Native.Nat.{ℕ, ◌+◌, ◌*◌, ◌-◌, ◌^◌, ◌≤◌, ◌<◌}
use native.Mathlib.Nat.{mul-le-mul, lt_of_le_of_lt}
use native.Mathlib.Omega.{arith}
use lib.Dec.{T, ltb, ltb→lt}
use Rattle.lattice.specs.declared.Sizes.{Sizes}
use Rattle.lattice.specs.Counts.{Sized, largest, widest, cells, corners, points, most_points}

-- a product of bounded numbers fits a word
pub small : (A B : ℕ) {a b : ℕ} → a ≤ A → b ≤ B → T (ltb (A * B) (2 ^ 64)) → a * b < 2 ^ 64
small A B h g t = lt_of_le_of_lt (mul-le-mul h g) (ltb→lt (A * B) (2 ^ 64) t)

pub product₃ : (A B C : ℕ) {a b c : ℕ} → a ≤ A → b ≤ B → c ≤ C → a * (b * c) ≤ A * (B * C)
product₃ A B C h g k = mul-le-mul h (mul-le-mul g k)

pub small₃ : (A B C : ℕ) {a b c : ℕ} → a ≤ A → b ≤ B → c ≤ C → T (ltb (A * (B * C)) (2 ^ 64)) → a * (b * c) < 2 ^ 64
small₃ A B C h g k t = small A (B * C) h (mul-le-mul g k) t

pub corners_small : (s : Sizes) → Sized s → corners s ≤ 274625
unfolding cells
corners_small s h = product₃ 65 65 65 (omega arith) (omega arith) (omega arith)

pub points_small : (s : Sizes) → Sized s → points s ≤ most_points
unfolding points cells
points_small s h = omega (arith, corners_small s h, product₃ 64 64 64 h.x_high h.y_high h.z_high)

pub linear_small : (a b x y z : ℕ) → a ≤ widest → b ≤ widest → x ≤ largest → y ≤ largest → z ≤ largest
    → x + a * (y + b * z) ≤ 274624
linear_small a b x y z ha hb hx hy hz =
    omega (arith, mul-le-mul {n₁ = a} {m₁ = y + b * z} {n₂ = 65} {m₂ = 4224} ha (omega (arith, mul-le-mul {n₂ = 65} {m₂ = 64} hb hz)))

-- the three products of the count of lattice tetrahedra
pub axes_small : (s : Sizes) → Sized s
    → ((s.nx - 1) * (s.ny * s.nz) ≤ 258048) × (s.nx * ((s.ny - 1) * s.nz) ≤ 258048) × (s.nx * (s.ny * (s.nz - 1)) ≤ 258048)
axes_small s h = (
  product₃ 63 64 64 (omega arith) h.y_high h.z_high,
  product₃ 64 63 64 h.x_high (omega arith) h.z_high,
  product₃ 64 64 63 h.x_high h.y_high (omega arith),
)
