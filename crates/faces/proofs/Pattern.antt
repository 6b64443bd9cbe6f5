-- The rows of four labels with their winding, the faces that three labels put on a triangle, and the sides of a
-- tetrahedron. Definitions only.
use Prim.Native.Nat.{ℕ}
use mathlib.Core.Bool.{Bool, true, false, not}
use mathlib.Core.List.{List, [], ◌∷◌, map}
use lib.ListN.{get_or}
use Rattle.std.specs.Prelude.{if◌then◌else◌}
use Rattle.basics.proofs.Finite.{each}
use Rattle.moving.specs.declared.Label.{Label}
use Rattle.moving.specs.declared.Label.TheVariants.{Zero}
use Rattle.moving.specs.Label.{is_zero}
use Rattle.stencil.specs.Tetrahedron.{Vertex, v0, v1, v2, v3}
use Rattle.stencil.specs.Row.{Row, row, Face, face, Third, t0, t1, t2, face_of}
use Rattle.stencil.specs.Stencil.{Entry, point, between, rank, rows_for}
use Rattle.stencil.proofs.Corners.{the_thirds}
use Rattle.stencil.specs.inner.Sign.{order, even, signed}
use Rattle.faces.proofs.Windings.{map_face, wound}

-- the rows of a tetrahedron whose four corners, ascending, have the labels l and wind positively (true) or not
unfoldable pub signed_for : Bool → (Vertex → Label) → List (Row (Entry Vertex))
signed_for s l = map (signed s) (rows_for l)

abbrev pub no_row : Row (Entry Vertex)
no_row = row (point v0) (point v0) (point v0) (point v0)

unfoldable pub row_in : List (Row (Entry Vertex)) → ℕ → Row (Entry Vertex)
row_in rows r = get_or rows r no_row

-- the face of the r-th of them that leaves out v
abbrev pub face_for : Bool → (Vertex → Label) → ℕ → Vertex → Face (Entry Vertex)
face_for s l r v = face_of (row_in (signed_for s l) r) v

-- what an entry stands on: the corner that it is, or the two ends of a cut, lower first
module _ {X : Type 0} where
  abbrev pub tip : Bool → Entry X → X
  tip b (point v) = v
  tip false (between u v) = u
  tip true (between u v) = v

module _ {X Y : Type 0} (f : X → Y) where
  abbrev pub map_entry : Entry X → Entry Y
  map_entry (point v) = point (f v)
  map_entry (between u v) = between (f u) (f v)

-- the triangle that leaves out a corner, ascending
abbrev pub side : Vertex → Third → Vertex
side v0 t0 = v1
side v0 t1 = v2
side v0 t2 = v3
side v1 t0 = v0
side v1 t1 = v2
side v1 t2 = v3
side v2 t0 = v0
side v2 t1 = v1
side v2 t2 = v3
side v3 t0 = v0
side v3 t1 = v1
side v3 t2 = v2

-- do a side's corners, ascending, wind it outward
abbrev pub outward : Bool → Vertex → Bool
outward s v0 = s
outward s v1 = not s
outward s v2 = s
outward s v3 = not s

-- a triangle beside a fourth corner with the label zero; its corners again
abbrev pub apex : (Third → Label) → Vertex → Label
apex l v0 = l t0
apex l v1 = l t1
apex l v2 = l t2
apex l v3 = Zero

abbrev pub third : Vertex → Third
third v0 = t0
third v1 = t1
third v2 = t2
third v3 = t0

-- the base of a row that stands on such a triangle, wound as its corners ascending
unfoldable pub base : Row (Entry Vertex) → Face (Entry Third)
base (row a b c d) = map_face (map_entry third) (wound (even (map rank (order (row a b c d)))) (face a b c))

-- the faces on a triangle by its three labels: three zeros make one, any others the bases of the rows beside a zero
unfoldable pub on_triangle : (Third → Label) → List (Face (Entry Third))
on_triangle l =
    if each the_thirds (λ t. is_zero (l t)) then face (point t0) (point t1) (point t2) ∷ []
    else map base (rows_for (apex l))

abbrev pub no_face : Face (Entry Third)
no_face = face (point t0) (point t0) (point t0)

-- those of the side that leaves out q; the n-th of them, as the tetrahedron shows it
unfoldable pub on_side : (Vertex → Label) → Vertex → List (Face (Entry Third))
on_side l q = on_triangle (λ t. l (side q t))

unfoldable pub shown : Bool → (Vertex → Label) → Vertex → ℕ → Face (Entry Third)
shown s l q n = wound (outward s q) (get_or (on_side l q) n no_face)

abbrev pub lift : Vertex → Face (Entry Third) → Face (Entry Vertex)
lift q f = map_face (map_entry (side q)) f
