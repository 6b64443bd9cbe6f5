-- How a row is built, corner by corner: each entry brings in one new corner, as that corner itself or as the cut
-- between it and one that came before; and the corners in the order in which they come wind as the row does.
-- Definitions, as tests, and what a passed test says. Assumes nothing.
--
--   hangs, fits    an entry brings in a corner, and stands as entries of rows do
--   built          all that is asked of a row
--   opposite       the three corners opposite one, wound
use Prim.Native.Nat.{ℕ}
use mathlib.Core.Path.{◌≡◌, subst}
use mathlib.Core.Logic.{inl, inr}
use mathlib.Core.Bool.{Bool, true, false, not, ◌||◌, beq}
use mathlib.Core.List.{List, [], ◌∷◌, map}
use lib.Dec.{T}
use lib.ListN.{get_or}
use Rattle.basics.proofs.Test.{◌&◌, and_l, and_r, or_cases, Member, here, there, any}
use Rattle.basics.proofs.Tested.{same, same_use}
use Rattle.moving.specs.declared.Label.{Label}
use Rattle.moving.specs.Label.{is_zero}
use Rattle.stencil.specs.Tetrahedron.{Vertex, v0, v1, v2, v3}
use Rattle.stencil.specs.Row.{Row, row, Face, face, face_of, cycled, exchanged}
use Rattle.stencil.specs.Stencil.{Entry, point, between, rank}
use Rattle.stencil.proofs.Corners.{the_vertices, the_thirds}
use Rattle.stencil.proofs.Entries.{stands}
use Rattle.stencil.specs.inner.Sign.{order, even}

abbrev pub is : Vertex → Vertex → Bool
is u v = same the_vertices u v

pub is_use : (u v : Vertex) → T (is u v) → u ≡ v
is_use = same_use the_vertices

pub any_is : (u : Vertex) (l : List Vertex) → T (any (is u) l) → Member u l
any_is u [] t = absurd t
any_is u (v ∷ l) t = elim (or_cases (is u v) (any (is u) l) t) [
  | inl p ↦ subst (λ (x : Vertex). Member u (x ∷ l)) (is_use u v p) here
  | inr q ↦ there (any_is u l q)
]

-- it is the corner y; or one of its ends is, and the other came before
unfoldable pub hangs : List Vertex → Vertex → Entry Vertex → Bool
hangs before y (point v) = is v y
hangs before y (between u v) = (is v y & any (is u) before) || (is u y & any (is v) before)

unfoldable pub fits : (Vertex → Label) → List Vertex → Vertex → Entry Vertex → Bool
fits l before y e = stands l e & hangs before y e

-- a row is built of four corners, the first of which is not zero
unfoldable pub built_of : (Vertex → Label) → Row (Entry Vertex) → (w x y z : Vertex) → Bool
built_of l (row a b c d) w x y z =
    not (is_zero (l w))
    & (fits l [] w a
    & (fits l (w ∷ []) x b
    & (fits l (w ∷ x ∷ []) y c
    & fits l (w ∷ x ∷ y ∷ []) z d)))

-- a face as it is (true) or with two corners exchanged
abbrev pub faced : {A : Type 0} → Bool → Face A → Face A
faced true f = f
faced false f = exchanged f

-- the three corners opposite u, in the winding that gives them and u a positive six-volume, where the four corners,
-- ascending, wind positively (true) or do not
abbrev pub opposite : Bool → Vertex → Face Vertex
opposite s u = faced s (face_of (row v0 v1 v2 v3) u)

unfoldable pub same_face : Face Vertex → Face Vertex → Bool
same_face (face u v w) (face x y z) = is u x & (is v y & is w z)

pub face_same : (f g : Face Vertex) → T (same_face f g) → f ≡ g
unfolding same_face
face_same (face u v w) (face x y z) t =
    let r = and_r (is u x) _ t in
    λ i. face (is_use u x (and_l _ _ t) i) (is_use v y (and_l _ _ r) i) (is_use w z (and_r _ _ r) i)

-- the corners after the first wind, as the row's sign says, as those opposite the first do
abbrev pub is_even : Row (Entry Vertex) → Bool
is_even r = even (map rank (order r))

unfoldable pub wound_of : Bool → Row (Entry Vertex) → (w x y z : Vertex) → Bool
wound_of s r w x y z =
    let f = faced (beq s (is_even r)) (face x y z) in
    any (λ k. same_face f (cycled k (opposite s w))) the_thirds.all

-- all that is asked of a row, of its corners in the order in which they come
abbrev pub coming : Row (Entry Vertex) → ℕ → Vertex
coming r n = get_or (order r) n v0

unfoldable pub built : (Vertex → Label) → Row (Entry Vertex) → Bool
built l r =
    let w = coming r 0 in
    let x = coming r 1 in
    let y = coming r 2 in
    let z = coming r 3 in
    built_of l r w x y z & (wound_of true r w x y z & wound_of false r w x y z)
