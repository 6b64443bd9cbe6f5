-- The lattice tetrahedron across each side of each of the twelve types: a table. Definitions only.
use Prim.Native.Nat.{ℕ}
use mathlib.Core.List.{[], ◌∷◌}
use Rattle.basics.proofs.Test.{here, there, Member}
use Rattle.basics.proofs.Finite.{Finite}
use Rattle.basics.proofs.Tested.{◌⊗◌}
use Rattle.lattice.specs.declared.Kind.{Kind}
use Rattle.lattice.specs.declared.Kind.TheVariants.{Corner, Centre}
use Rattle.lattice.specs.Axis.{Axis, along_x, along_y, along_z}
use Rattle.lattice.proofs.Axes.{the_axes}
use Rattle.stencil.specs.Tetrahedron.{Vertex, v0, v1, v2, v3, Quarter, q0, q1, q2, q3, cycle, offset, kind}
use Rattle.stencil.specs.Row.{Third}
use Rattle.stencil.proofs.Corners.{the_vertices, the_quarters}
use Rattle.faces.proofs.Pattern.{side}

-- the type of the tetrahedron across a side, its corner off the side, and its cube, so much up and so much down
pub record Neighbour : Type 0 where
  pub axis : Axis
  pub edge : Quarter
  pub corner : Vertex
  pub up : Axis → ℕ
  pub down : Axis → ℕ

-- the next axis in the cycle and the one after it
abbrev pub next : Axis → Axis
next along_x = along_y
next along_y = along_z
next along_z = along_x

abbrev pub after : Axis → Axis
after a = next (next a)

abbrev none : Axis → Axis → ℕ
none a = cycle a 0 0 0

-- across the side that leaves out a corner: both tetrahedra stand on the same two cubes where it leaves out an end of
-- the edge
unfoldable pub across : Axis → Quarter → Vertex → Neighbour
across a q0 v0 = record { axis = a; edge = q1; corner = v1; up = none a; down = none a }
across a q0 v1 = record { axis = a; edge = q3; corner = v1; up = none a; down = none a }
across a q0 v2 = record { axis = after a; edge = q3; corner = v2; up = cycle a 1 0 0; down = cycle a 0 0 1 }
across a q0 v3 = record { axis = after a; edge = q1; corner = v2; up = none a; down = cycle a 0 0 1 }
across a q1 v0 = record { axis = a; edge = q2; corner = v0; up = none a; down = none a }
across a q1 v1 = record { axis = a; edge = q0; corner = v0; up = none a; down = none a }
across a q1 v2 = record { axis = next a; edge = q0; corner = v3; up = cycle a 1 0 0; down = none a }
across a q1 v3 = record { axis = next a; edge = q2; corner = v3; up = none a; down = none a }
across a q2 v0 = record { axis = a; edge = q1; corner = v0; up = none a; down = none a }
across a q2 v1 = record { axis = a; edge = q3; corner = v0; up = none a; down = none a }
across a q2 v2 = record { axis = after a; edge = q3; corner = v3; up = cycle a 1 0 0; down = none a }
across a q2 v3 = record { axis = after a; edge = q1; corner = v3; up = none a; down = none a }
across a q3 v0 = record { axis = a; edge = q2; corner = v1; up = none a; down = none a }
across a q3 v1 = record { axis = a; edge = q0; corner = v1; up = none a; down = none a }
across a q3 v2 = record { axis = next a; edge = q0; corner = v2; up = cycle a 1 0 0; down = cycle a 0 1 0 }
across a q3 v3 = record { axis = next a; edge = q2; corner = v2; up = none a; down = cycle a 0 1 0 }

abbrev pub the_kinds : Finite Kind
the_kinds = record { all = Corner ∷ Centre ∷ []; complete = complete }
  where
    complete : (k : Kind) → Member k (Corner ∷ Centre ∷ [])
    complete Corner = here
    complete Centre = there here

abbrev pub Side : Type 0
Side = Axis × (Quarter × Vertex)

abbrev pub the_sides : Finite Side
the_sides = the_axes ⊗ the_quarters ⊗ the_vertices

abbrev pub next_to : Side → Neighbour
next_to x = across x.0 x.1.0 x.1.1

-- a corner of a side, counted from the lower cube, and its kind
abbrev pub side_offset : Side → Third → Axis → ℕ
side_offset x t c = offset x.0 x.1.0 (side x.1.1 t) c

abbrev pub side_kind : Side → Third → Kind
side_kind x t = kind (side x.1.1 t)

abbrev pub side_of : Neighbour → Side
side_of n = (n.axis, (n.edge, n.corner))
