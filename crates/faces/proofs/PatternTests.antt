-- What every face of every row of a pattern is like, as tests that are computed over all 81 patterns and both windings.
-- Assumes nothing.
use Prim.Native.Nat.{ℕ}
use mathlib.Core.Bool.{Bool, true, false, not, ◌||◌}
use mathlib.Core.List.{List, [], ◌∷◌}
use lib.Dec.{eqb}
use lib.ListN.{length}
use Rattle.std.specs.Prelude.{if◌then◌else◌}
use Rattle.basics.specs.Lists.{from, below}
use Rattle.basics.proofs.Test.{◌&◌, imp, every, any}
use Rattle.basics.proofs.Finite.{each}
use Rattle.basics.proofs.Tested.{the_bools, pairs, same, keep}
use Rattle.moving.specs.declared.Label.{Label}
use Rattle.moving.specs.Label.{is_plus, is_minus, is_zero, opposed}
use Rattle.stencil.specs.Tetrahedron.{Vertex}
use Rattle.stencil.specs.Row.{Row, Face, face, Third, row_at, face_at, face_of, cycled, exchanged}
use Rattle.stencil.specs.Stencil.{Entry, point, between, cut, choose, stencil_of, rows_of, rows_for}
use Rattle.stencil.proofs.Corners.{the_vertices, the_thirds}
use Rattle.stencil.proofs.Entries.{same_entry, stands}
use Rattle.stencil.proofs.Patterns.{AllWound}
use Rattle.stencil.specs.inner.Sign.{newcomer, order, even_first, even, signed}
use Rattle.faces.proofs.Pattern.{signed_for, row_in, tip, side, base, on_triangle, on_side, shown, lift}

abbrev pub Rows : Type 0
Rows = List (Row (Entry Vertex))

-- equal faces; a row holds a face
unfoldable pub same_face : Face (Entry Vertex) → Face (Entry Vertex) → Bool
same_face (face x y z) (face a b c) = same_entry x a & (same_entry y b & same_entry z c)

unfoldable pub holds : Row (Entry Vertex) → Face (Entry Vertex) → Bool
holds r f = each the_thirds (λ t. any (λ v. same_entry (row_at r v) (face_at f t)) the_vertices.all)

-- the other rows that hold a face of the r-th
unfoldable pub others : Rows → ℕ → Face (Entry Vertex) → List ℕ
others rows r f = keep (λ m. not (eqb m r) & holds (row_in rows m) f) (below (length rows))

unfoldable pub alone : List ℕ → Bool
alone [] = true
alone (m ∷ ms) = false

-- some entry of the face stands on a corner; it stands on all four; it stands on a whole side
unfoldable pub covers : Face (Entry Vertex) → Vertex → Bool
covers f v =
    let on : Third × Bool → Bool = λ c. same the_vertices (tip c.1 (face_at f c.0)) v in
    any on (pairs the_thirds.all the_bools.all)

unfoldable pub covers_all : Face (Entry Vertex) → Bool
covers_all f = each the_vertices (covers f)

unfoldable pub covers_side : Face (Entry Vertex) → Vertex → Bool
covers_side f q = each the_thirds (λ t. covers f (side q t))

-- a face's lattice points all have the label zero; a side has a plus
unfoldable pub zero_point : (Vertex → Label) → Entry Vertex → Bool
zero_point l (point v) = is_zero (l v)
zero_point l (between u v) = true

unfoldable pub zeros : (Vertex → Label) → Face (Entry Vertex) → Bool
zeros l f = each the_thirds (λ t. zero_point l (face_at f t))

unfoldable pub plus_on : (Vertex → Label) → Vertex → Bool
plus_on l q = any (λ t. is_plus (l (side q t))) the_thirds.all

unfoldable pub has_plus : (Vertex → Label) → Bool
has_plus l = any (λ v. is_plus (l v)) the_vertices.all

-- a face on all four corners: no other row holds it and its points are zeros, or one other row winds it the other way
unfoldable pub facing : Rows → Face (Entry Vertex) → ℕ → Vertex × Third → Bool
facing rows f m c = same_face (face_of (row_in rows m) c.0) (exchanged (cycled c.1 f))

unfoldable pub within : (Vertex → Label) → Rows → Face (Entry Vertex) → List ℕ → Bool
within l rows f [] = zeros l f
within l rows f (m ∷ []) = any (facing rows f m) (pairs the_vertices.all the_thirds.all)
within l rows f (m ∷ n ∷ ms) = false

-- a face on a side: it is one that the side's three labels put there
unfoldable pub showing : Bool → (Vertex → Label) → Face (Entry Vertex) → Vertex → ℕ → Bool
showing s l f q n = any (λ t. same_face f (lift q (cycled t (shown s l q n)))) the_thirds.all

unfoldable pub beside : Bool → (Vertex → Label) → Face (Entry Vertex) → Vertex → Bool
beside s l f q =
    covers_side f q & (any (showing s l f q) (below (length (on_side l q))) & (plus_on l q || zeros l f))

-- 1: every face of every row is of one of these kinds
unfoldable pub fits : Bool → (Vertex → Label) → Face (Entry Vertex) → Rows → List ℕ → Bool
fits s l f rows others =
    let inside = within l rows f others in
    let outside = alone others & any (beside s l f) the_vertices.all in
    if covers_all f then inside else outside

unfoldable pub fits_at : Bool → (Vertex → Label) → Rows → ℕ → Vertex → Bool
fits_at s l rows r v = fits s l (face_of (row_in rows r) v) rows (others rows r (face_of (row_in rows r) v))

unfoldable pub fitting : Bool → (Vertex → Label) → Rows → Bool
fitting s l rows = every (λ r. each the_vertices (fits_at s l rows r)) (below (length rows))

-- 2: with a plus among the labels, each face that three labels put on a side is a face of a row, and of no other
unfoldable pub shows : Bool → (Vertex → Label) → Rows → Vertex → ℕ → ℕ → Vertex → Bool
shows s l rows q n r v = alone (others rows r (face_of (row_in rows r) v)) & showing s l (face_of (row_in rows r) v) q n

unfoldable pub shows_in : Bool → (Vertex → Label) → Rows → Vertex → ℕ → Bool
shows_in s l rows q n = any (λ r. any (shows s l rows q n r) the_vertices.all) (below (length rows))

unfoldable pub shows_on : Bool → (Vertex → Label) → Rows → Vertex → Bool
shows_on s l rows q = every (shows_in s l rows q) (below (length (on_side l q)))

unfoldable pub showing_all : Bool → (Vertex → Label) → Rows → Bool
showing_all s l rows = imp (has_plus l) (each the_vertices (shows_on s l rows))

-- 3: with no plus there are no rows; each entry stands as entries of rows do; the entries of a row differ
unfoldable pub differing : Rows → ℕ → Vertex → Vertex → Bool
differing rows r v w = imp (same_entry (row_at (row_in rows r) v) (row_at (row_in rows r) w)) (same the_vertices v w)

unfoldable pub proper_at : (Vertex → Label) → Rows → ℕ → Vertex → Bool
proper_at l rows r v = stands l (row_at (row_in rows r) v) & each the_vertices (differing rows r v)

unfoldable pub proper : (Vertex → Label) → Rows → Bool
proper l rows =
    (has_plus l || eqb (length rows) 0) & every (λ r. each the_vertices (proper_at l rows r)) (below (length rows))

pub fitting_ok : AllWound (λ s l. fitting s l (signed_for s l))
unfolding
    ◌&◌ fitting fits_at fits within facing beside showing zeros zero_point plus_on covers_side covers_all covers
    alone others holds same_face same_entry keep from signed_for row_in shown on_side on_triangle base
    rows_for rows_of stencil_of choose cut newcomer order even_first even signed is_plus is_minus is_zero
fitting_ok = record { passed = tt }

pub showing_all_ok : AllWound (λ s l. showing_all s l (signed_for s l))
unfolding
    ◌&◌ showing_all shows_on shows_in shows showing has_plus
    alone others holds same_face same_entry keep from signed_for row_in shown on_side on_triangle base
    rows_for rows_of stencil_of choose cut newcomer order even_first even signed is_plus is_minus is_zero
showing_all_ok = record { passed = tt }

pub proper_ok : AllWound (λ s l. proper l (signed_for s l))
unfolding
    ◌&◌ proper proper_at stands differing has_plus same_entry from signed_for row_in
    rows_for rows_of stencil_of choose cut newcomer order even_first even signed is_plus is_minus is_zero opposed
proper_ok = record { passed = tt }
