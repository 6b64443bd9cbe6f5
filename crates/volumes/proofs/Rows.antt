-- The six-volume of each row of a lattice tetrahedron: a positive share of that of the corners at their places (the
-- volume identity), with a sign that the pattern and the type alone decide. Assumes nothing.
use Prim.Native.Nat.{ℕ, ◌*◌}
use mathlib.Core.Path.{◌≡◌, refl, sym, ◌∙◌, ap, subst}
use mathlib.Core.Logic.{inl, inr}
use mathlib.Core.Bool.{Bool, true, false, not, beq}
use mathlib.Core.List.{List, [], ◌∷◌}
use lib.Dec.{T, ltb→lt}
use lib.IntN.{ℤ, pos, neg_ℤ}
use lib.Signed.{◌<ℤ◌}
use Rattle.basics.proofs.Test.{◌&◌, and_l, and_r, or_cases, Member, any, any_use, every_use}
use Rattle.basics.proofs.Integer.{*ℤ-neg}
use Rattle.lattice.specs.declared.Sizes.{Sizes}
use Rattle.moving.specs.declared.Label.{Label}
use Rattle.moving.specs.Label.{is_zero}
use Rattle.stencil.specs.Tetrahedron.{Tetrahedron, Vertex, kind, corner, corner_number}
use Rattle.stencil.specs.Row.{Row, row, face, cycled, map_row}
use Rattle.stencil.specs.Stencil.{Entry, point, between, rows_for}
use Rattle.stencil.specs.Id.{id_of}
use Rattle.stencil.proofs.Corners.{the_thirds}
use Rattle.stencil.specs.inner.Sign.{winds}
use Rattle.stencil.proofs.Entries.{stands}
use Rattle.stencil.proofs.Valid.{Valid, corner_inside}
use Rattle.geometry.specs.Place.{Place}
use Rattle.geometry.specs.Volume.{six_volume}
use Rattle.geometry.proofs.Determinant.{volume_swap}
use Rattle.filling.specs.Mesh.{row_volume}
use Rattle.volumes.proofs.Sound.{Sound}
use Rattle.volumes.proofs.Built.{is, is_use, any_is, hangs, fits, built_of, coming, built}
use Rattle.volumes.proofs.Built.{faced, opposite, same_face, face_same, is_even, wound_of}
use Rattle.volumes.proofs.BuiltTest.{rows_built_law}
use Rattle.volumes.proofs.Keeps.{seen_from, cycled_same, keeps}
use Rattle.volumes.proofs.Mix.{Mix, flip, Brings, itself, mixed, cut_place_law}
use Rattle.volumes.proofs.Identity.{Share, share_positive, identity}

-- a number (true), or its negative
abbrev pub turned_by : Bool → ℤ → ℤ
turned_by true z = z
turned_by false z = neg_ℤ z

share_turned : (b : Bool) {n : ℕ} {x y : ℤ} → Share n x y → Share n (turned_by b x) (turned_by b y)
share_turned true s = s
share_turned false {n} {x} {y} s =
    record {
      parts = s.parts;
      some = s.some;
      is = *ℤ-neg (pos n) x ∙ ap neg_ℤ s.is ∙ sym (*ℤ-neg (pos s.parts) y);
    }

-- the corners in the order in which they come wind as those opposite the first
faced_volume : (b : Bool) (P : Vertex → Place) (w x y z : Vertex)
    → seen_from P w (faced b (face x y z)) ≡ turned_by b (six_volume (P w) (P x) (P y) (P z))
faced_volume true P w x y z = refl
faced_volume false P w x y z = volume_swap (P w) (P x) (P y) (P z)

wound_use : (s : Bool) (r : Row (Entry Vertex)) (w x y z : Vertex) → T (wound_of s r w x y z) → (P : Vertex → Place)
    → seen_from P w (opposite s w) ≡ turned_by (beq s (is_even r)) (six_volume (P w) (P x) (P y) (P z))
unfolding wound_of
wound_use s r w x y z t P =
    let f = faced (beq s (is_even r)) (face x y z) in
    let k = any_use (λ k. same_face f (cycled k (opposite s w))) the_thirds.all t in
    sym (ap (seen_from P w) (face_same f (cycled k.0 (opposite s w)) k.1) ∙ cycled_same P w k.0 (opposite s w))
    ∙ faced_volume (beq s (is_even r)) P w x y z

-- nothing came before the first
brings_first : {P : Vertex → Place} {w : Vertex} {E : Place} → Brings P [] w E → E ≡ P w
brings_first (mixed o m _) = elim m [ ]
brings_first (itself e) = e

module _ {s : Sizes} {label : ℕ → Label} {byte : ℕ → ℕ} {place : ℕ → Place}
    (Q : Sound s label byte place) (t : Tetrahedron) (h : Valid s t) where
  abbrev at : Vertex → Place
  at v = place (corner_number s t v)

  abbrev labels : Vertex → Label
  labels v = label (corner_number s t v)

  -- the place of an entry, by the corner that it brings in and those that came before
  fits_use : (e : Entry Vertex) (before : List Vertex) (y : Vertex) → T (fits labels before y e)
      → Brings at before y (place (id_of s t e))
  unfolding id_of fits hangs stands
  fits_use (point v) before y f = itself (ap at (is_use v y (and_r _ _ f)))
  fits_use (between u v) before y f =
      let k = and_r (stands labels (between u v)) _ f in
      elim (or_cases (is v y & any (is u) before) (is u y & any (is v) before) k) [
        | inl p ↦ mixed u (any_is u before (and_r _ _ p))
            (subst (λ (z : Vertex). Mix (at u) (at z) E) (is_use v y (and_l _ _ p)) mix)
        | inr p ↦ mixed v (any_is v before (and_r _ _ p))
            (subst (λ (z : Vertex). Mix (at v) (at z) E) (is_use u y (and_l _ _ p)) (flip mix))
      ]
    where
      E : Place
      E = place (id_of s t (between u v))

      mix : Mix (at u) (at v) E
      mix = let k = and_l _ _ f in cut_place_law Q t h u v (ltb→lt _ _ (and_l _ _ k)) (and_r _ _ k)

  built_share : (r : Row (Entry Vertex)) (w x y z : Vertex) → T (built_of labels r w x y z)
      → Share (256 * 256 * 256) (row_volume place (map_row (id_of s t) r)) (six_volume (at w) (at x) (at y) (at z))
  unfolding built_of row_volume
  built_share (row a b c d) w x y z f =
      let rest = and_r _ _ (and_r (not (is_zero (labels w))) _ f) in
      let A = brings_first (fits_use a [] w (and_l _ _ (and_r _ _ f))) in
      let B = fits_use b (w ∷ []) x (and_l _ _ rest) in
      let C = fits_use c (w ∷ x ∷ []) y (and_l _ _ (and_r _ _ rest)) in
      let D = fits_use d (w ∷ x ∷ y ∷ []) z (and_r _ _ (and_r _ _ rest)) in
      rw A (identity at w B C D)

  solid : (r : Row (Entry Vertex)) (w x y z : Vertex) → T (built_of labels r w x y z) → T (not (is_zero (labels w)))
  unfolding built_of
  solid (row a b c d) w x y z f = and_l _ _ f

  module _ (r : Row (Entry Vertex)) (among : Member r (rows_for labels)) where
    abbrev corners : ℕ → Vertex
    corners n = coming r n

    passed : T (built labels r)
    passed = every_use (built labels) (rows_for labels) (rows_built_law labels) among

    -- the volume identity: 256³ times a row's six-volume is a positive number times that of its corners, in the order
    -- in which they come
    pub volume_identity :
        Share (256 * 256 * 256) (row_volume place (map_row (id_of s t) r))
        (six_volume (at (corners 0)) (at (corners 1)) (at (corners 2)) (at (corners 3)))
    unfolding built
    volume_identity = built_share r (corners 0) (corners 1) (corners 2) (corners 3) (and_l _ _ passed)

    wound_by : (b : Bool) → T (wound_of b r (corners 0) (corners 1) (corners 2) (corners 3))
    unfolding built
    wound_by true = and_l _ _ (and_r _ _ passed)
    wound_by false = and_r _ _ (and_r _ _ passed)

    -- the sign of a row, by its pattern and the type
    pub row_sign : pos 0 <ℤ turned_by (beq (winds t.edge) (is_even r)) (row_volume place (map_row (id_of s t) r))
    unfolding built corner_number
    row_sign =
        share_positive (share_turned (beq (winds t.edge) (is_even r)) volume_identity)
        (subst (λ (v : ℤ). pos 0 <ℤ v)
        (wound_use (winds t.edge) r (corners 0) (corners 1) (corners 2) (corners 3) (wound_by (winds t.edge)) at)
        (keeps t at (λ v. Q.moves (kind v) (corner t v) (corner_inside s t h v)) (corners 0)
        (Q.still (kind (corners 0)) (corner t (corners 0)) (corner_inside s t h (corners 0))
        (solid r (corners 0) (corners 1) (corners 2) (corners 3) (and_l _ _ passed)))))
