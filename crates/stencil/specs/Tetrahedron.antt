-- Document 01, "Lattice tetrahedra and rows": the lattice tetrahedra in their order, each with its four corners
-- ascending.
use Rattle.std.specs.Prelude.{ℕ, ◌+◌, ◌-◌, min, max, List, [], ◌∷◌}
use Rattle.basics.specs.Lists.{gather, below}
use Rattle.lattice.specs.declared.Sizes.{Sizes}
use Rattle.lattice.specs.declared.Kind.{Kind}
use Rattle.lattice.specs.declared.Kind.TheVariants.{Corner, Centre}
use Rattle.lattice.specs.Axis.{Axis, along_x, along_y, along_z, xyz}
use Rattle.lattice.specs.Counts.{size}
use Rattle.lattice.specs.Point.{number}

-- the four corners of a tetrahedron, ascending in number
pub data Vertex : Type 0 where
  v0 v1 v2 v3 : Vertex

-- the four corners of a face of a cube, and its four edges, in the turn
pub data Quarter : Type 0 where
  q0 q1 q2 q3 : Quarter

abbrev pub next_quarter : Quarter → Quarter
next_quarter q0 = q1
next_quarter q1 = q2
next_quarter q2 = q3
next_quarter q3 = q0

-- "the two centres, lower first, and one edge of the shared face make a tetrahedron": the axis between the two cubes,
-- the lower cube, and the edge
pub record Tetrahedron : Type 0 where
  pub axis : Axis
  pub cube : Axis → ℕ
  pub edge : Quarter

-- "The other two axes follow in the cycle x, y, z": what stands along an axis itself, the next one and the one after
abbrev pub cycle {ℓ} : {A : Type ℓ} → Axis → A → A → A → Axis → A
cycle along_x p q r = xyz p q r
cycle along_y p q r = xyz r p q
cycle along_z p q r = xyz q r p

-- one cube on, along an axis
unfoldable pub unit : Axis → Axis → ℕ
unit a = cycle a 1 0 0

-- "in them the face's corners around are (-,-), (+,-), (+,+), (-,+)": counted from the lower cube's lowest corner
unfoldable pub around : Axis → Quarter → Axis → ℕ
around a q0 = cycle a 1 0 0
around a q1 = cycle a 1 1 0
around a q2 = cycle a 1 1 1
around a q3 = cycle a 1 0 1

-- the four corners, counted from the lower cube: the edge's lower end, its upper end, the lower centre, the upper one
unfoldable pub offset : Axis → Quarter → Vertex → Axis → ℕ
offset a e v0 c = min (around a e c) (around a (next_quarter e) c)
offset a e v1 c = max (around a e c) (around a (next_quarter e) c)
offset a e v2 c = 0
offset a e v3 c = unit a c

abbrev pub kind : Vertex → Kind
kind v0 = Corner
kind v1 = Corner
kind v2 = Centre
kind v3 = Centre

unfoldable pub corner : Tetrahedron → Vertex → Axis → ℕ
corner t v c = t.cube c + offset t.axis t.edge v c

unfoldable pub corner_number : Sizes → Tetrahedron → Vertex → ℕ
corner_number s t v = number s (kind v) (corner t v)

-- "For axis x, then y, then z, and each cube that has a next cube along it, in ascending centre number .. The four
-- edges go in that turn, the last one closing it"
abbrev pub axes : List Axis
axes = along_x ∷ along_y ∷ along_z ∷ []

abbrev pub quarters : List Quarter
quarters = q0 ∷ q1 ∷ q2 ∷ q3 ∷ []

unfoldable pub in_turn : Axis → ℕ → ℕ → ℕ → Quarter → List Tetrahedron
in_turn a z y x e = record { axis = a; cube = xyz x y z; edge = e } ∷ []

unfoldable pub in_cube : Axis → ℕ → ℕ → ℕ → List Tetrahedron
in_cube a z y x = gather (in_turn a z y x) quarters

unfoldable pub in_line : Sizes → Axis → ℕ → ℕ → List Tetrahedron
in_line s a z y = gather (in_cube a z y) (below (size s along_x - unit a along_x))

unfoldable pub in_layer : Sizes → Axis → ℕ → List Tetrahedron
in_layer s a z = gather (in_line s a z) (below (size s along_y - unit a along_y))

unfoldable pub in_axis : Sizes → Axis → List Tetrahedron
in_axis s a = gather (in_layer s a) (below (size s along_z - unit a along_z))

unfoldable pub tetrahedra_of : Sizes → List Tetrahedron
tetrahedra_of s = gather (in_axis s) axes
