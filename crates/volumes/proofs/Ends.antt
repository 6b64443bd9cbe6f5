-- The arms of a lattice tetrahedron from one of its corners, and a test that they wind positively when they end at
-- corners of boxes. Vectors are three numbers side by side here, and the cross product of two is taken once for all
-- ends of the third, for speed. Definitions only.
use mathlib.Core.Bool.{Bool}
use lib.IntN.{ℤ, pos, ◌+ℤ◌, ◌-ℤ◌, ◌*ℤ◌}
use lib.Signed.{lt_z}
use Rattle.basics.proofs.Test.{every}
use Rattle.lattice.specs.Axis.{Axis, along_x, along_y, along_z}
use Rattle.lattice.specs.Point.{doubled}
use Rattle.stencil.specs.Tetrahedron.{Vertex, Quarter, kind, offset}
use Rattle.stencil.specs.Row.{Face, face}
use Rattle.stencil.specs.inner.Sign.{winds}
use Rattle.geometry.specs.Place.{Place}
use Rattle.volumes.proofs.Box.{ends}
use Rattle.volumes.proofs.Built.{opposite}

-- from one corner to another, before any move
unfoldable pub arm : Axis → Quarter → Vertex → Vertex → Place
arm a e u v c = pos 256 *ℤ (pos (doubled (kind v) (offset a e v c)) -ℤ pos (doubled (kind u) (offset a e u c)))

pub data Vector : Type 0 where
  vector : ℤ → ℤ → ℤ → Vector

abbrev pub flat : Place → Vector
flat p = vector (p along_x) (p along_y) (p along_z)

unfoldable pub normal : Vector → Vector → Vector
normal (vector a b c) (vector d e f) = vector (b *ℤ f -ℤ c *ℤ e) (c *ℤ d -ℤ a *ℤ f) (a *ℤ e -ℤ b *ℤ d)

unfoldable pub along : Vector → Vector → ℤ
along (vector a b c) (vector d e f) = d *ℤ a +ℤ (e *ℤ b +ℤ f *ℤ c)

-- a test at the eight corners of the box about a vector's end
unfoldable pub at_corners : (Vector → Bool) → Vector → Bool
at_corners f (vector a b c) = every (λ i. every (λ j. every (λ k. f (vector (a +ℤ i) (b +ℤ j) (c +ℤ k))) ends) ends) ends

unfoldable pub ahead : Vector → Vector → Bool
ahead n w = at_corners (λ z. lt_z (pos 0) (along n z)) w

unfoldable pub positive_at : Vector → Vector → Vector → Bool
positive_at u v w = at_corners (λ x. at_corners (λ y. ahead (normal x y) w) v) u

unfoldable pub arms_wind : Axis → Quarter → Vertex → Face Vertex → Bool
arms_wind a e u (face x y z) = positive_at (flat (arm a e u x)) (flat (arm a e u y)) (flat (arm a e u z))

-- the three corners opposite u, for the type of the axis a and the edge e
abbrev pub type_keeps : Axis → Quarter → Vertex → Bool
type_keeps a e u = arms_wind a e u (opposite (winds e) u)
