-- All that the theorem on volumes takes from the moving step: where points and cuts may stand. Nothing about how points
-- were chosen to move enters. Definitions only.
use Prim.Native.Nat.{ℕ, ◌+◌, ◌≤◌, ◌<◌}
use mathlib.Core.Path.{◌≡◌}
use mathlib.Core.Bool.{not}
use lib.Dec.{T}
use lib.IntN.{pos, ◌+ℤ◌, ◌*ℤ◌}
use Rattle.std.specs.Prelude.{if◌then◌else◌}
use Rattle.lattice.specs.declared.Sizes.{Sizes}
use Rattle.lattice.specs.declared.Kind.{Kind}
use Rattle.lattice.specs.Axis.{Axis}
use Rattle.lattice.specs.Point.{doubled, Inside, number}
use Rattle.lattice.specs.Direction.{Code, direction, long, direction_of, step}
use Rattle.lattice.specs.Edge.{byte_at}
use Rattle.moving.specs.declared.Label.{Label}
use Rattle.moving.specs.Label.{is_zero, opposed}
use Rattle.stencil.specs.Id.{cut_id}
use Rattle.geometry.specs.Place.{Place, lattice_place, signed}

-- how far a point may stand from its lattice place along the direction of a code. The rules move no further than 63 and
-- 105; the theorem holds up to 127 on a short edge
abbrev pub reach : ℕ → ℕ
reach c = if long (direction_of c) then 63 else 127

-- p is so far from the lattice place of a point, along the direction of some code
pub record Moved (k : Kind) (i : Axis → ℕ) (p : Place) : Type 0 where
  pub c : ℕ
  pub code : Code c
  pub t : ℕ
  pub within : t ≤ reach c
  pub is : (a : Axis) → p a ≡ lattice_place k i a +ℤ pos t *ℤ signed (step c a)

-- labels, cut bytes and the places of ids: each point is within reach, and on its lattice place unless its label is
-- zero; a byte between a plus and a minus point is from 1 to 255; and the place of a cut is where its byte says
pub record Sound (s : Sizes) (label : ℕ → Label) (byte : ℕ → ℕ) (place : ℕ → Place) : Type 0 where
  pub moves : (k : Kind) (i : Axis → ℕ) → Inside s k i → Moved k i (place (number s k i))
  pub still : (k : Kind) (i : Axis → ℕ) → Inside s k i → T (not (is_zero (label (number s k i))))
      → (a : Axis) → place (number s k i) a ≡ lattice_place k i a
  pub bytes : (k l : Kind) (i j : Axis → ℕ) (d : ℕ) → Inside s k i → Inside s l j → d < 7
      → ((a : Axis) → doubled l (j a) + (direction d a).down ≡ doubled k (i a) + (direction d a).up)
      → T (opposed (label (number s k i)) (label (number s l j)))
      → (0 < byte (byte_at (number s k i) d)) × (byte (byte_at (number s k i) d) < 256)
  pub cut_places : (k : Kind) (i : Axis → ℕ) (d : ℕ) → Inside s k i → d < 7 → (a : Axis)
      → place (cut_id s (number s k i) d) a
      ≡ lattice_place k i a +ℤ pos (byte (byte_at (number s k i) d)) *ℤ signed (direction d a)
