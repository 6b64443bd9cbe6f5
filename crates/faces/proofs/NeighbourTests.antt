-- The table of neighbours, tested over all twelve types. Assumes nothing.
use Prim.Native.Nat.{ℕ, ◌+◌}
use mathlib.Core.Bool.{Bool, not, ◌||◌, beq}
use lib.Dec.{ltb, eqb}
use Rattle.basics.proofs.Test.{◌&◌, imp}
use Rattle.basics.proofs.Finite.{each}
use Rattle.basics.proofs.Tested.{Tested, ◌⊗◌, same}
use Rattle.lattice.specs.Axis.{Axis}
use Rattle.lattice.specs.Counts.{along}
use Rattle.lattice.proofs.Axes.{the_axes}
use Rattle.stencil.specs.Tetrahedron.{Vertex, Quarter, unit, around, offset}
use Rattle.stencil.specs.Row.{Third, t0}
use Rattle.stencil.proofs.Corners.{the_vertices, the_quarters, the_thirds}
use Rattle.stencil.specs.inner.Sign.{winds}
use Rattle.faces.proofs.Pattern.{outward}
use Rattle.faces.proofs.Neighbour.{across, the_kinds, Side, the_sides, next_to, side_offset, side_kind, side_of}

-- 1: the neighbour has the side, winds it the opposite way, and is of another type
unfoldable pub meets_along : Side → Third → Axis → Bool
meets_along x t c = eqb (side_offset (side_of (next_to x)) t c + (next_to x).up c) (side_offset x t c + (next_to x).down c)

unfoldable pub meets : Side → Third → Bool
meets x t = same the_kinds (side_kind x t) (side_kind (side_of (next_to x)) t) & each the_axes (meets_along x t)

unfoldable pub faces_back : Side → Bool
faces_back x =
    beq (outward (winds (next_to x).edge) (next_to x).corner) (not (outward (winds x.1.0) x.1.1))

unfoldable pub same_side : Side → Side → Bool
same_side x y =
    same the_axes x.0 y.0 & (same the_quarters x.1.0 y.1.0 & same the_vertices x.1.1 y.1.1)

unfoldable pub alike : Side → Bool
alike x = same the_axes x.0 (next_to x).axis & same the_quarters x.1.0 (next_to x).edge

-- 2: no others have it: their corners on the side would be as far apart
unfoldable pub as_far_along : Side → Side → Third → Axis → Bool
as_far_along x y t c = eqb (side_offset y t c + side_offset x t0 c) (side_offset x t c + side_offset y t0 c)

unfoldable pub as_far : Side → Side → Third → Bool
as_far x y t = same the_kinds (side_kind x t) (side_kind y t) & each the_axes (as_far_along x y t)

unfoldable pub meet_only : Side → Side → Bool
meet_only x y = imp (each the_thirds (as_far x y)) (same_side y x || same_side y (side_of (next_to x)))

-- 3: where the neighbour would be outside the block, the side is on the rim: the lower and the upper end of the two
-- cubes, as far as the tetrahedron reaches and as far as the neighbour would
abbrev pub reach : Side → Axis → ℕ
reach x c = unit x.0 c + (next_to x).down c

abbrev pub reach_beyond : Side → Axis → ℕ
reach_beyond x c = (next_to x).up c + unit (next_to x).axis c

unfoldable pub lowest : Side → Axis → Third → Bool
lowest x c t = eqb (side_offset x t c) 0

unfoldable pub highest : Side → Axis → Third → Bool
highest x c t = eqb (side_offset x t c) (unit x.0 c + along (side_kind x t) 0)

unfoldable pub low_rim : Side → Axis → Bool
low_rim x c = imp (ltb 0 ((next_to x).down c)) (eqb ((next_to x).down c) 1 & each the_thirds (lowest x c))

unfoldable pub high_rim : Side → Axis → Bool
high_rim x c =
    imp (ltb (reach x c) (reach_beyond x c)) (eqb (reach_beyond x c) (reach x c + 1) & each the_thirds (highest x c))

-- 4: types with the same corners are the same
unfoldable pub same_offset : Axis × Quarter → Axis × Quarter → Vertex × Axis → Bool
same_offset x y c = eqb (offset x.0 x.1 c.0 c.1) (offset y.0 y.1 c.0 c.1)

unfoldable pub same_type : Axis × Quarter → Axis × Quarter → Bool
same_type x y =
    imp (each (the_vertices ⊗ the_axes) (same_offset x y)) (same the_axes x.0 y.0 & same the_quarters x.1 y.1)

pub meets_ok : Tested (the_sides ⊗ the_thirds) (λ c. meets c.0 c.1)
unfolding ◌&◌ meets meets_along across offset around unit
meets_ok = record { passed = tt }

pub faces_back_ok : Tested the_sides faces_back
unfolding ◌&◌ faces_back across
faces_back_ok = record { passed = tt }

pub differs_ok : Tested the_sides (λ x. not (alike x))
unfolding ◌&◌ alike across
differs_ok = record { passed = tt }

pub meet_only_ok : Tested (the_sides ⊗ the_sides) (λ c. meet_only c.0 c.1)
unfolding ◌&◌ meet_only as_far as_far_along same_side across offset around unit
meet_only_ok = record { passed = tt }

pub low_rim_ok : Tested (the_sides ⊗ the_axes) (λ c. low_rim c.0 c.1)
unfolding ◌&◌ low_rim lowest across offset around unit
low_rim_ok = record { passed = tt }

pub high_rim_ok : Tested (the_sides ⊗ the_axes) (λ c. high_rim c.0 c.1)
unfolding ◌&◌ high_rim highest across offset around unit
high_rim_ok = record { passed = tt }

pub same_type_ok : Tested ((the_axes ⊗ the_quarters) ⊗ (the_axes ⊗ the_quarters)) (λ c. same_type c.0 c.1)
unfolding ◌&◌ same_type same_offset offset around unit
same_type_ok = record { passed = tt }
