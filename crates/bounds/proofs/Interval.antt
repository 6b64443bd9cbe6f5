-- Integers in one interval: what is mixed of two of them lies in it too, and no two of them are further apart than it
-- is long. Assumes nothing.
use Prim.Native.Nat.{ℕ, ◌+◌, ◌*◌, ◌≤◌}
use native.Mathlib.Omega.{arith}
use native.Mathlib.Nat.{mul-le-mul_left}
use mathlib.Core.Path.{◌≡◌, ap}
use lib.IntN.{ℤ, pos, ◌+ℤ◌, ◌-ℤ◌, ◌*ℤ◌}
use Rattle.basics.proofs.Integer.{above, beneath, Split, nat, int, ◌⊕◌, ◌⊖◌, ◌⊗◌}
use Rattle.volumes.proofs.Box.{half}
use Rattle.bounds.proofs.Triple.{Within, parts_within}

-- two lattice steps, and a half beyond each end of them
abbrev pub side : ℕ
side = half + 512 + half

-- from low - half to low - half + side
pub record Between (low : ℕ) (z : ℤ) : Type 0 where
  pub from : low + beneath z ≤ above z + half
  pub upto : above z + half ≤ low + beneath z + side

-- by the two natural numbers whose difference it is
pub parts_between : {low : ℕ} {z : ℤ} (s : Split z) → low + s.n ≤ s.p + half → s.p + half ≤ low + s.n + side
    → Between low z
parts_between s h k = record { from = omega (arith, s.is); upto = omega (arith, s.is) }

same_parts : {x y : ℤ} (a : Split x) (b : Split y) → x ≡ y → a.p + b.n ≡ b.p + a.n
same_parts a b e = omega (arith, a.is, b.is, ap above e, ap beneath e)

module _ {low : ℕ} {x y : ℤ} (p : Between low x) (q : Between low y) where
  -- m 256ths of one and n of the other
  pub mix_between : (z : ℤ) (m n : ℕ) → m + n ≡ 256 → pos 256 *ℤ z ≡ pos m *ℤ x +ℤ pos n *ℤ y → Between low z
  mix_between z m n whole e =
      let parts = same_parts (nat 256 ⊗ int z) (nat m ⊗ int x ⊕ nat n ⊗ int y) e in
      let lows = ap (λ (k : ℕ). k * low) whole in
      record {
        from = omega (arith, parts, lows, mul-le-mul_left m p.from, mul-le-mul_left n q.from);
        upto = omega (arith, parts, lows, mul-le-mul_left m p.upto, mul-le-mul_left n q.upto);
      }

  pub apart : Within side (y -ℤ x)
  apart = parts_within (y -ℤ x) (int y ⊖ int x) (omega arith) (omega arith)
