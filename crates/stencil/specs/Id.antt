-- Document 01, "Lattice tetrahedra and rows": "a corner in a row is a lattice point or the cut of an edge, with id p or
-- N+7p+d".
use Rattle.std.specs.Prelude.{ℕ, ◌+◌, Bool, eqb, if◌then◌else◌}
use Rattle.basics.specs.Lists.{first_from}
use Rattle.lattice.specs.declared.Sizes.{Sizes}
use Rattle.lattice.specs.Axis.{Axis, everywhere}
use Rattle.lattice.specs.Counts.{points}
use Rattle.lattice.specs.Point.{doubled}
use Rattle.lattice.specs.Direction.{is_start, direction_of, step}
use Rattle.lattice.specs.Edge.{byte_at}
use Rattle.stencil.specs.Tetrahedron.{Tetrahedron, Vertex, Quarter, kind, offset, corner_number}
use Rattle.stencil.specs.Stencil.{Entry, point, between}

-- a code leads from one corner of a tetrahedron to another
unfoldable pub leads_to : Axis → Quarter → Vertex → Vertex → ℕ → Bool
leads_to a e u v c =
    everywhere (λ x.
    eqb (doubled (kind v) (offset a e v x) + (step c x).down) (doubled (kind u) (offset a e u x) + (step c x).up))

-- the one that does: "Its start is the end from which it has a direction"
unfoldable pub code_between : Axis → Quarter → Vertex → Vertex → ℕ
code_between a e u v = first_from (leads_to a e u v) 14 1

abbrev pub start_of : ℕ → Vertex → Vertex → Vertex
start_of c u v = if is_start c then u else v

-- the id of the cut of the edge from point p in direction d
abbrev pub cut_id : Sizes → ℕ → ℕ → ℕ
cut_id s p d = points s + byte_at p d

unfoldable pub id_of : Sizes → Tetrahedron → Entry Vertex → ℕ
id_of s t (point v) = corner_number s t v
id_of s t (between u v) =
    let c = code_between t.axis t.edge u v in
    cut_id s (corner_number s t (start_of c u v)) (direction_of c)
