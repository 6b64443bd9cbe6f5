-- A tetrahedron as the code holds it, its corners and the cuts between them, and their ids.
use Rattle.std.specs.Prelude.{ℕ, zero, suc, ◌+◌, ◌*◌, ◌<◌, ◌≤◌, List, [], ◌∷◌, get_or, ltb, if◌then◌else◌}
use Rattle.lattice.specs.Axis.{Axis, along_x, along_y, along_z}
use Rattle.lattice.specs.Counts.{largest}
use Rattle.lattice.specs.Direction.{direction_of}
use Rattle.lattice.specs.Edge.{byte_at}
use Rattle.stencil.specs.Tetrahedron.{Vertex, v0, v1, v2, v3, Quarter, q0, q1, q2, q3}
use Rattle.stencil.specs.Stencil.{rank}
use Rattle.stencil.specs.Id.{code_between, start_of}
use Rattle.rows.specs.declared.Tetra.{Tetra}
use Rattle.rows.specs.declared.Corner.{Corner}
use Rattle.rows.specs.declared.Corner.TheVariants.{Point, Edge}
use Rattle.rows.specs.declared.Row.{Row}

-- how many points the largest block has: its cube corners and its cube centres
abbrev pub most : ℕ
most = (largest + 1) * ((largest + 1) * (largest + 1)) + largest * (largest * largest)

-- an axis, an edge of the turn and a corner of a tetrahedron by their numbers
abbrev pub axis_at : ℕ → Axis
axis_at zero = along_x
axis_at (suc zero) = along_y
axis_at (suc (suc n)) = along_z

abbrev pub quarter_at : ℕ → Quarter
quarter_at zero = q0
quarter_at (suc zero) = q1
quarter_at (suc (suc zero)) = q2
quarter_at (suc (suc (suc n))) = q3

abbrev pub vertex_at : ℕ → Vertex
vertex_at zero = v0
vertex_at (suc zero) = v1
vertex_at (suc (suc zero)) = v2
vertex_at (suc (suc (suc n))) = v3

-- the number of a corner
abbrev pub corner_of : Tetra → Vertex → ℕ
corner_of t v = get_or t.corners (rank v) 0

-- a tetrahedron of one of the twelve kinds, in a block that is taken
pub record KnownTetra (t : Tetra) : Type 0 where
  pub few : t.n ≤ most
  pub axis_in : t.axis < 3
  pub edge_in : t.edge < 4
  pub corner_in : (v : Vertex) → corner_of t v < t.n

-- a corner of a row, in a block of n points
abbrev pub KnownCorner : ℕ → Corner → Type 0
KnownCorner n (Point p) = p < n
KnownCorner n (Edge p d) = (p < n) × (d < 7)

abbrev pub KnownRow : ℕ → Row → Type 0
KnownRow n r = KnownCorner n r.0 × KnownCorner n r.1 × KnownCorner n r.2 × KnownCorner n r.3

-- "with id p or N+7p+d": the id of a corner
unfoldable pub corner_id : ℕ → Corner → ℕ
corner_id n (Point p) = p
corner_id n (Edge p d) = n + byte_at p d

abbrev pub row_ids : ℕ → Row → List ℕ
row_ids n r = corner_id n r.0 ∷ corner_id n r.1 ∷ corner_id n r.2 ∷ corner_id n r.3 ∷ []

-- a corner of the tetrahedron
unfoldable pub point_at : Tetra → ℕ → Corner
point_at t v = Point (corner_of t (vertex_at v))

unfoldable pub point_id : Tetra → ℕ → ℕ
point_id t v = corner_of t (vertex_at v)

-- the cut between two corners of a tetrahedron of a kind: the code from the lower corner to the higher one, the start and
-- the direction
abbrev pub lower_first : {A : Type 0} → Vertex → Vertex → (Vertex → Vertex → A) → A
lower_first u v f = if ltb (rank u) (rank v) then f u v else f v u

unfoldable pub start_between : Axis → Quarter → Vertex → Vertex → Vertex
start_between a e u v = lower_first u v (λ x y. start_of (code_between a e x y) x y)

unfoldable pub way_between : Axis → Quarter → Vertex → Vertex → ℕ
way_between a e u v = lower_first u v (λ x y. direction_of (code_between a e x y))

unfoldable pub cut_at : Tetra → ℕ → ℕ → Corner
cut_at t u v =
    let a = axis_at t.axis in
    let e = quarter_at t.edge in
    Edge (corner_of t (start_between a e (vertex_at u) (vertex_at v))) (way_between a e (vertex_at u) (vertex_at v))

-- and its id
unfoldable pub cut_id : Tetra → ℕ → ℕ → ℕ
cut_id t u v =
    let a = axis_at t.axis in
    let e = quarter_at t.edge in
    t.n + byte_at (corner_of t (start_between a e (vertex_at u) (vertex_at v))) (way_between a e (vertex_at u) (vertex_at v))
