-- The computed test: a lattice tetrahedron of any of the twelve types keeps its sign while one corner rests and the
-- three others stand at corners of boxes about their lattice places, 127 to each side: 12 × 4 × 8³ determinants, of
-- which the least is 264,192 (at 128 to each side it is 0). Assumes nothing.
use lib.Dec.{T}
use Rattle.basics.proofs.Test.{◌&◌}
use Rattle.basics.proofs.Finite.{each, each_use}
use Rattle.lattice.specs.Axis.{Axis}
use Rattle.lattice.proofs.Axes.{the_axes}
use Rattle.stencil.specs.Tetrahedron.{Vertex, Quarter, offset, around, unit}
use Rattle.stencil.proofs.Corners.{the_vertices, the_quarters}
use Rattle.volumes.proofs.Ends.{arm, normal, along, at_corners, ahead, positive_at, arms_wind, type_keeps}

all_keep : T (each the_axes (λ a. each the_quarters (λ e. each the_vertices (type_keeps a e))))
unfolding ◌&◌ arm normal along at_corners ahead positive_at arms_wind offset around unit
all_keep = tt

pub type_keeps_law : (a : Axis) (e : Quarter) (u : Vertex) → T (type_keeps a e u)
type_keeps_law a e u =
    each_use the_vertices (type_keeps a e)
    (each_use the_quarters (λ e. each the_vertices (type_keeps a e))
    (each_use the_axes (λ a. each the_quarters (λ e. each the_vertices (type_keeps a e))) all_keep a) e) u
