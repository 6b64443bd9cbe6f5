-- What changes sign with the winding of a face cancels wherever two rows meet: over the faces of all rows it adds up to
-- what it adds up to over the boundary. Assumes nothing.
--     Alternating     it changes sign with the winding
--     of_row           what it adds up to over the four faces of a row
--     boundary_sum    the two sums are the same
use Prim.Native.Nat.{ℕ}
use mathlib.Core.Path.{◌≡◌, refl, sym, ◌∙◌, ap}
use mathlib.Core.Bool.{Bool, true, false}
use mathlib.Core.List.{List, [], ◌∷◌}
use lib.ListN.{length}
use lib.IntN.{ℤ, pos, ◌+ℤ◌, neg_ℤ, +ℤ_idl, +ℤ_idr}
use Rattle.std.specs.Prelude.{if◌then◌else◌}
use Rattle.basics.specs.Lists.{below}
use Rattle.basics.proofs.Test.{Member}
use Rattle.basics.proofs.Mapped.{read_all}
use Rattle.stencil.specs.Tetrahedron.{v0, v1, v2, v3}
use Rattle.stencil.specs.Row.{Row, row, Face, face_of, Opposite}
use Rattle.geometry.specs.Place.{Place}
use Rattle.filling.specs.Demand.{nth_row, Conforms}
use Rattle.boundary.specs.Sum.{sum}
use Rattle.boundary.specs.Boundary.{HalfFace, four_of, half_faces, outward, alone, if_alone, boundary_faces}
use Rattle.boundary.proofs.Sums.{plus, sum_same, sum_zero, sum_one, sum_add, sum_map, sum_gather}
use Rattle.boundary.proofs.Sums.{sum_antisymmetric}
use Rattle.boundary.proofs.Meets.{opposite_back, meets_back, meets}
use Rattle.boundary.proofs.HalfFaces.{half_once}
use Rattle.boundary.proofs.Matched.{Matched, to_none, to_one, matched}

-- the other winding has the opposite value
abbrev pub Alternating : (Face ℕ → ℤ) → Type 0
Alternating f = (g h : Face ℕ) → Opposite g h → f h ≡ neg_ℤ (f g)

abbrev pub of_row : (Face ℕ → ℤ) → Row ℕ → ℤ
of_row f r = sum (λ v. f (face_of r v)) (v0 ∷ v1 ∷ v2 ∷ v3 ∷ [])

-- z if it is so, else nothing
module _ {P : Type 0} where
  abbrev share : Dec P → ℤ → ℤ
  share (yes p) z = z
  share (no n) z = pos 0

  share_all : (d : Dec P) (z : ℤ) → P → share d z ≡ z
  share_all (yes p) z h = refl
  share_all (no n) z h = absurd (n h)

  share_none : (d : Dec P) (z : ℤ) → (P → ⊥) → share d z ≡ pos 0
  share_none (yes p) z h = absurd (h p)
  share_none (no n) z h = refl

share_odd : {P Q : Type 0} (d : Dec P) (e : Dec Q) (z w : ℤ) → (P → Q) → (Q → P) → (P → z ≡ neg_ℤ w)
    → share d z ≡ neg_ℤ (share e w)
share_odd (yes p) (yes q) z w f g h = h p
share_odd (yes p) (no n) z w f g h = absurd (n (f p))
share_odd (no n) (yes q) z w f g h = absurd (n (g q))
share_odd (no n) (no k) z w f g h = refl

module _ (rows : List (Row ℕ)) (f : Face ℕ → ℤ) where
  abbrev half : List HalfFace
  half = half_faces (length rows)

  abbrev at : HalfFace → ℤ
  at x = f (outward rows x)

  abbrev at_alone : HalfFace → ℤ
  at_alone x = if alone rows x then at x else pos 0

  -- what x has that y cancels
  abbrev against : HalfFace → HalfFace → ℤ
  against x y = share (meets rows x y) (at x)

  against_odd : Alternating f → (x y : HalfFace) → against x y ≡ neg_ℤ (against y x)
  against_odd odd x y =
      share_odd (meets rows x y) (meets rows y x) (at x) (at y) (meets_back rows) (meets_back rows)
      (λ m. odd (outward rows y) (outward rows x) (opposite_back m.opposed))

  -- all that x has is cancelled, or none of it
  settled : (x : HalfFace) → Matched rows x → sum (against x) half +ℤ at_alone x ≡ at x
  settled x (to_none t none) =
      plus (sum_zero (against x) half (λ y p. share_none (meets rows x y) (at x) (none y p)))
      (ap (λ (b : Bool). if b then at x else pos 0) t) ∙ +ℤ_idl (at x)
  settled x (to_one t y p m only) =
      plus (sum_one (against x) (half_once (length rows)) p others ∙ share_all (meets rows x y) (at x) m)
      (ap (λ (b : Bool). if b then at x else pos 0) t) ∙ +ℤ_idr (at x)
    where
      others : (z : HalfFace) → Member z half → (z ≡ y → ⊥) → against x z ≡ pos 0
      others z q d = share_none (meets rows x z) (at x) (λ u. d (only z q u))

  cancel : ((x : HalfFace) → Member x half → Matched rows x) → Alternating f → sum at half ≡ sum at_alone half
  cancel h odd =
      sym (sum_same (λ x. sum (against x) half +ℤ at_alone x) at half (λ x m. settled x (h x m)))
      ∙ sum_add (λ x. sum (against x) half) at_alone half
      ∙ plus (sum_antisymmetric against half (against_odd odd)) refl ∙ +ℤ_idl (sum at_alone half)

  -- the sums over the boundary and over all rows, as sums over half-faces
  on_boundary : sum f (boundary_faces rows) ≡ sum at_alone half
  unfolding sum boundary_faces if_alone
  on_boundary =
      sum_gather f (if_alone rows) half
      ∙ sum_same (λ x. sum f (if_alone rows x)) at_alone half (λ x m. pick (alone rows x) (outward rows x))
    where
      pick : (b : Bool) (g : Face ℕ) → sum f (if b then g ∷ [] else []) ≡ (if b then f g else pos 0)
      pick true g = +ℤ_idr (f g)
      pick false g = refl

  on_rows : sum (of_row f) rows ≡ sum at half
  unfolding sum half_faces
  on_rows =
      ap (sum (of_row f)) (sym (read_all (nth_row rows) rows (length rows) (row 0 0 0 0) refl (λ i h. refl)))
      ∙ sum_map (of_row f) (nth_row rows) (below (length rows)) ∙ sym (sum_gather at four_of (below (length rows)))

  pub boundary_sum : {place : ℕ → Place} {Skin : ℕ → Type 0} → Conforms rows place Skin → Alternating f
      → sum (of_row f) rows ≡ sum f (boundary_faces rows)
  boundary_sum c odd = on_rows ∙ cancel (matched c) odd ∙ sym on_boundary
