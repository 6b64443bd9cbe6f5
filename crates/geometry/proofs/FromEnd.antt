-- Places of points by their kind and indices, and of cuts from the end of their edge. Assumes nothing.
use Prim.Native.Nat.{ℕ, ◌+◌, ◌*◌, ◌-◌, ◌≤◌}
use native.Mathlib.Omega.{arith}
use mathlib.Core.Path.{◌≡◌, ap}
use lib.IntN.{pos, ◌+ℤ◌, ◌-ℤ◌, ◌*ℤ◌}
use Rattle.basics.proofs.Integer.{ring, nat, ◌⊕◌, ◌⊖◌, ◌⊗◌}
use Rattle.lattice.specs.declared.Sizes.{Sizes}
use Rattle.lattice.specs.declared.Kind.{Kind}
use Rattle.lattice.specs.Axis.{Axis}
use Rattle.lattice.specs.Point.{Inside, number}
use Rattle.lattice.proofs.Number.{kind_number, index_number}
use Rattle.geometry.specs.Place.{lattice_place, rest}

-- the place of a point by its kind and indices
module _ (s : Sizes) (k : Kind) (i : Axis → ℕ) (h : Inside s k i) where
  pub rest_number : rest s (number s k i) ≡ lattice_place k i
  rest_number = λ t. lattice_place (kind_number s k i h t) (λ a. index_number s k i h a t)

  pub rest_along : (a : Axis) → rest s (number s k i) a ≡ lattice_place k i a
  rest_along a = λ t. rest_number t a

-- t steps from y lead where 256 less t steps lead back from x, if a whole step leads from y to x
pub from_end : (x y up down t : ℕ) → t ≤ 256 → y + up ≡ x + down
    → pos (256 * y) +ℤ pos t *ℤ (pos up -ℤ pos down) ≡ pos (256 * x) +ℤ pos (256 - t) *ℤ (pos down -ℤ pos up)
from_end x y up down t h e =
    ring (nat (256 * y) ⊕ nat t ⊗ (nat up ⊖ nat down)) (nat (256 * x) ⊕ nat (256 - t) ⊗ (nat down ⊖ nat up))
    (omega (arith, ap (λ (z : ℕ). z * up) whole, ap (λ (z : ℕ). z * down) whole))
  where
    whole : (256 - t) + t ≡ 256
    whole = omega arith
