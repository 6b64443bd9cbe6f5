-- The ids of the corners that the code holds are the ids of the entries of document 01's rows. Assumes nothing.
use Prim.Native.Nat.{ℕ, ◌+◌}
use mathlib.Core.Path.{◌≡◌, refl, sym, ap, ◌∙◌}
use mathlib.Core.Bool.{Bool, true, false, not, beq}
use mathlib.Core.List.{List, [], ◌∷◌, ◌++◌, map}
use lib.Dec.{T, ltb, eqb}
use lib.ListN.{get_or}
use Rattle.std.specs.Prelude.{if◌then◌else◌}
use Rattle.basics.specs.Lists.{gather}
use Rattle.lattice.specs.declared.Sizes.{Sizes}
use Rattle.lattice.specs.Axis.{Axis}
use Rattle.lattice.specs.Counts.{points}
use Rattle.lattice.specs.Direction.{direction_of}
use Rattle.lattice.specs.Edge.{byte_at}
use Rattle.moving.specs.declared.Label.{Label}
use Rattle.stencil.specs.Tetrahedron.{Tetrahedron, Vertex, Quarter, corner_number}
use Rattle.stencil.specs.Row.{Row, row, swapped, map_row}
use Rattle.stencil.specs.Stencil.{Entry, between, rank, point, cut, rows_for}
use Rattle.stencil.specs.Stencil.{Stencil, no_plus, plus_zero_only, +++-, ++--, ++-0, +---, +--0, +-00, stencil_of}
use Rattle.stencil.specs.Id.{code_between, start_of, id_of}
use Rattle.stencil.specs.inner.Sign.{signed}
use Rattle.filling.specs.Mesh.{ids, table}
use Rattle.rows.specs.declared.Tetra.{Tetra}
use Rattle.rows.specs.inner.Corners.{axis_at, quarter_at, vertex_at, corner_of, point_id, cut_id, start_between, way_between}
use Rattle.rows.specs.inner.Picks.{sum, ordered, is_even}
use Rattle.rows.specs.inner.Stencils.{lines, lines_by, turned, turned_row, stencil_ids, tetra_ids}
use Rattle.rows.proofs.Patterns.{listed, lines_are, Apart, ordered_apart}

-- the id of an entry by the numbers of a tetrahedron's corners
unfoldable pub id_by : Tetra → Entry Vertex → ℕ
id_by t (point v) = corner_of t v
id_by t (between u v) =
    let c = code_between (axis_at t.axis) (quarter_at t.edge) u v in
    t.n + byte_at (corner_of t (start_of c u v)) (direction_of c)

-- the rows of entries that the table's lines give
abbrev entry_row : Bool → Entry Vertex → Entry Vertex → Entry Vertex → Entry Vertex → Row (Entry Vertex)
entry_row k a b c d = if k then row a b c d else swapped (row a b c d)

-- a corner of the code and an entry have one id
pub record Same (t : Tetra) (a : ℕ) (p : Entry Vertex) : Type 0 where
  pub is : a ≡ id_by t p

module _ (t : Tetra) where
  point_same : (v : ℕ) → Same t (point_id t v) (point (vertex_at v))
  unfolding point_id id_by
  point_same v = record { is = refl }

  cut_same : (u v : ℕ) → T (not (eqb (rank (vertex_at u)) (rank (vertex_at v)))) → Same t (cut_id t u v) (cut (vertex_at u) (vertex_at v))
  unfolding cut_id cut start_between way_between id_by
  cut_same u v ne = record { is = go (ltb (rank (vertex_at u)) (rank (vertex_at v))) }
    where
      a : Axis
      a = axis_at t.axis

      e : Quarter
      e = quarter_at t.edge

      x : Vertex
      x = vertex_at u

      y : Vertex
      y = vertex_at v

      go : (b : Bool)
          → t.n + byte_at (corner_of t (if b then start_of (code_between a e x y) x y else start_of (code_between a e y x) y x))
          (if b then direction_of (code_between a e x y) else direction_of (code_between a e y x))
          ≡ id_by t (if b then between x y else between y x)
      go true = refl
      go false = refl

  row_same : (k : Bool) {a b c d : ℕ} {p q r s : Entry Vertex} → Same t a p → Same t b q → Same t c r → Same t d s
      → turned_row k a b c d ≡ ids (map_row (id_by t) (entry_row k p q r s))
  unfolding turned
  row_same true e f g h = λ i. e.is i ∷ f.is i ∷ g.is i ∷ h.is i ∷ []
  row_same false e f g h = λ i. e.is i ∷ f.is i ∷ h.is i ∷ g.is i ∷ []

  module _ (o : List ℕ) (k : Bool) (d : Apart o) where
    p1 : Same t (point_id t (get_or o 0 0)) (point (vertex_at (get_or o 0 0)))
    p1 = point_same (get_or o 0 0)

    p2 : Same t (point_id t (get_or o 1 0)) (point (vertex_at (get_or o 1 0)))
    p2 = point_same (get_or o 1 0)

    p3 : Same t (point_id t (get_or o 2 0)) (point (vertex_at (get_or o 2 0)))
    p3 = point_same (get_or o 2 0)

    p4 : Same t (point_id t (get_or o 3 0)) (point (vertex_at (get_or o 3 0)))
    p4 = point_same (get_or o 3 0)

    c12 : Same t (cut_id t (get_or o 0 0) (get_or o 1 0)) (cut (vertex_at (get_or o 0 0)) (vertex_at (get_or o 1 0)))
    c12 = cut_same (get_or o 0 0) (get_or o 1 0) d.1-2

    c13 : Same t (cut_id t (get_or o 0 0) (get_or o 2 0)) (cut (vertex_at (get_or o 0 0)) (vertex_at (get_or o 2 0)))
    c13 = cut_same (get_or o 0 0) (get_or o 2 0) d.1-3

    c14 : Same t (cut_id t (get_or o 0 0) (get_or o 3 0)) (cut (vertex_at (get_or o 0 0)) (vertex_at (get_or o 3 0)))
    c14 = cut_same (get_or o 0 0) (get_or o 3 0) d.1-4

    c23 : Same t (cut_id t (get_or o 1 0) (get_or o 2 0)) (cut (vertex_at (get_or o 1 0)) (vertex_at (get_or o 2 0)))
    c23 = cut_same (get_or o 1 0) (get_or o 2 0) d.2-3

    c24 : Same t (cut_id t (get_or o 1 0) (get_or o 3 0)) (cut (vertex_at (get_or o 1 0)) (vertex_at (get_or o 3 0)))
    c24 = cut_same (get_or o 1 0) (get_or o 3 0) d.2-4

    c34 : Same t (cut_id t (get_or o 2 0) (get_or o 3 0)) (cut (vertex_at (get_or o 2 0)) (vertex_at (get_or o 3 0)))
    c34 = cut_same (get_or o 2 0) (get_or o 3 0) d.3-4

    lines_ids : (st : Stencil)
        → stencil_ids t o k st
        ≡ table (map (map_row (id_by t)) (lines (λ v. point (vertex_at v)) (λ u v. cut (vertex_at u) (vertex_at v)) entry_row st o k))
    unfolding stencil_ids gather lines_by
    lines_ids no_plus = refl
    lines_ids plus_zero_only = λ i. row_same k p1 p2 p3 p4 i ++ []
    lines_ids +++- = λ i. row_same k p1 p2 p3 c34 i ++ (row_same (not k) p1 p2 c24 c34 i ++ (row_same k p1 c14 c24 c34 i ++ []))
    lines_ids ++-- = λ i. row_same k p1 p2 c23 c24 i ++ (row_same k p1 c13 c14 c24 i ++ (row_same (not k) p1 c13 c23 c24 i ++ []))
    lines_ids ++-0 = λ i. row_same k p1 p2 c23 p4 i ++ (row_same (not k) p1 c13 c23 p4 i ++ [])
    lines_ids +--- = λ i. row_same k p1 c12 c13 c14 i ++ []
    lines_ids +--0 = λ i. row_same k p1 c12 c13 p4 i ++ []
    lines_ids +-00 = λ i. row_same k p1 c12 p3 p4 i ++ []

  -- what the code writes for a tetrahedron is what its labels say
  pub tetra_is : (wound : Bool) (l : Vertex → Label)
      → tetra_ids wound t (listed l) ≡ table (map (map_row (id_by t)) (map (signed wound) (rows_for l)))
  unfolding tetra_ids
  tetra_is wound l =
      lines_ids (ordered (listed l)) (beq wound (is_even (listed l))) (ordered_apart l) (stencil_of (sum (listed l)))
      ∙ ap (λ (r : List (Row (Entry Vertex))). table (map (map_row (id_by t)) r)) (sym (lines_are l wound))

-- the ids of a lattice tetrahedron
pub id_is : (s : Sizes) (t : Tetrahedron) (w : Tetra) → w.n ≡ points s → axis_at w.axis ≡ t.axis → quarter_at w.edge ≡ t.edge
    → ((v : Vertex) → corner_of w v ≡ corner_number s t v) → (x : Entry Vertex) → id_by w x ≡ id_of s t x
unfolding id_by id_of
id_is s t w m p q h (point v) = h v
id_is s t w m p q h (between u v) =
    λ i. m i + byte_at (h (start_of (code_between (p i) (q i) u v) u v) i) (direction_of (code_between (p i) (q i) u v))
