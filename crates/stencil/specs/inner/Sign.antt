-- The orientation of a row without any place: each entry of a row brings in one new corner of the tetrahedron, and the
-- row winds as the corners in that order do. It joins the faces' half of demand 3 to the volumes' half. Definitions
-- only.
--
--   order    the corners in the order in which a row's entries bring them in
--   even     is an order of numbers even
--   signed   a row, its last two corners exchanged where it would not wind as said
--   winds    how the corners of a lattice tetrahedron wind, by its edge
use Rattle.std.specs.Prelude.{ℕ, Bool, true, false, not, ◌||◌, List, [], ◌∷◌, map, ltb, eqb, if◌then◌else◌}
use Rattle.std.specs.Bool.{beq}
use Rattle.stencil.specs.Tetrahedron.{Vertex, Quarter, q0, q1, q2, q3}
use Rattle.stencil.specs.Row.{Row, row, swapped}
use Rattle.stencil.specs.Stencil.{Entry, point, between, rank}

-- is a corner among those already seen
abbrev pub is_in : List Vertex → Vertex → Bool
is_in [] u = false
is_in (w ∷ seen) u = eqb (rank u) (rank w) || is_in seen u

-- the corner that an entry brings in besides those
unfoldable pub newcomer : List Vertex → Entry Vertex → Vertex
newcomer seen (point v) = v
newcomer seen (between u v) = if is_in seen u then v else u

unfoldable pub order : Row (Entry Vertex) → List Vertex
order (row a b c d) =
    let w = newcomer [] a in
    let x = newcomer (w ∷ []) b in
    let y = newcomer (w ∷ x ∷ []) c in
    w ∷ x ∷ y ∷ newcomer (w ∷ x ∷ y ∷ []) d ∷ []

-- is an order of numbers even
unfoldable pub even_first : ℕ → List ℕ → Bool
even_first x [] = true
even_first x (y ∷ ys) = beq (even_first x ys) (not (ltb y x))

unfoldable pub even : List ℕ → Bool
even [] = true
even (x ∷ xs) = beq (even_first x xs) (even xs)

-- the row that winds positively where the four corners, ascending, do (true) or do not
unfoldable pub signed : Bool → Row (Entry Vertex) → Row (Entry Vertex)
signed s r = if beq s (even (map rank (order r))) then r else swapped r

-- the corners of a lattice tetrahedron, ascending, wind positively for the first two edges of a turn
abbrev pub winds : Quarter → Bool
winds q0 = true
winds q1 = true
winds q2 = false
winds q3 = false
