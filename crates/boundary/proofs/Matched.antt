-- In rows that conform, a half-face is alone and meets none, or is not alone and meets one. Assumes nothing.
--     Matched, matched    that it is so
--     alone_on_skin       the corners of one that is alone lie on the skin
use Prim.Native.Nat.{ℕ, ◌<◌}
use mathlib.Core.Path.{◌≡◌, sym}
use mathlib.Core.Logic.{inl, inr}
use mathlib.Core.Bool.{true, false}
use mathlib.Core.List.{List}
use lib.Dec.{T}
use lib.ListN.{length}
use Rattle.basics.proofs.Test.{Member, F-false}
use Rattle.stencil.specs.Row.{Row, Third, face_at, Holds}
use Rattle.geometry.specs.Place.{Place}
use Rattle.filling.specs.Demand.{nth_row, FaceFits, shared, boundary, Conforms}
use Rattle.faces.proofs.Windings.{holds_own, holds_opposite}
use Rattle.boundary.specs.Boundary.{HalfFace, half_faces, outward, alone}
use Rattle.boundary.proofs.Different.{one_opposite}
use Rattle.boundary.proofs.Meets.{opposite_back, Meets}
use Rattle.boundary.proofs.Alone.{alone_use, alone_i}
use Rattle.boundary.proofs.HalfFaces.{half_i, half_lt}

module _ (rows : List (Row ℕ)) where
  pub data Matched (x : HalfFace) : Type 0 where
    to_none : alone rows x ≡ true
        → ((y : HalfFace) → Member y (half_faces (length rows)) → Meets rows x y → ⊥) → Matched x
    to_one : alone rows x ≡ false → (y : HalfFace) → Member y (half_faces (length rows)) → Meets rows x y
        → ((z : HalfFace) → Member z (half_faces (length rows)) → Meets rows x z → z ≡ y) → Matched x

  -- a row of which x meets a half-face holds the three ids of x
  holds_met : (x y : HalfFace) → Meets rows x y → Holds (nth_row rows y.0) (outward rows x)
  holds_met x y m =
      let r = nth_row rows y.0 in
      holds_opposite r (opposite_back m.opposed) (holds_own r y.1)

  -- so x is not alone
  not_alone : (x y : HalfFace) → y.0 < length rows → Meets rows x y → T (alone rows x) → ⊥
  not_alone x y l m t = m.apart (sym (alone_use rows x t y.0 l (holds_met x y m)))

module _ {rows : List (Row ℕ)} {place : ℕ → Place} {Skin : ℕ → Type 0} (c : Conforms rows place Skin) where
  by_fit : (x : HalfFace) → FaceFits rows Skin x.0 x.1 → Matched rows x
  by_fit x (boundary own s) =
      to_none (alone_i rows x own)
      (λ y p m. m.apart (sym (own y.0 (half_lt (length rows) p) (holds_met rows x y m))))
  by_fit x (shared j w l n o u) =
      to_one (F-false (alone rows x) (not_alone rows x (j, w) l met))
      (j, w) (half_i (length rows) j w l) met (λ y p m. only y (half_lt (length rows) p) m)
    where
      met : Meets rows x (j, w)
      met = record { apart = n; opposed = o }

      -- the j-th row has a volume, so only one of its faces is wound opposite to that of x
      only : (y : HalfFace) → y.0 < length rows → Meets rows x y → y ≡ (j, w)
      only y h m =
          elim (u y.0 h (holds_met rows x y m)) [
            | inl e ↦ absurd (m.apart (sym e))
            | inr e ↦
                let v = one_opposite place (nth_row rows j) (c.volumes j l) y.1 w (rw e at m.opposed) o in
                λ i. (e i, v i)
          ]

  -- what is alone was not shared, so it fits as a boundary face
  skin_by_fit : (x : HalfFace) → FaceFits rows Skin x.0 x.1 → T (alone rows x) → (t : Third)
      → Skin (face_at (outward rows x) t)
  skin_by_fit x (boundary own s) a = s
  skin_by_fit x (shared j w l n o u) a = absurd (not_alone rows x (j, w) l (record { apart = n; opposed = o }) a)

  module _ (x : HalfFace) (m : Member x (half_faces (length rows))) where
    pub alone_on_skin : T (alone rows x) → (t : Third) → Skin (face_at (outward rows x) t)
    alone_on_skin = skin_by_fit x (c.faces x.0 (half_lt (length rows) m) x.1)

    pub matched : Matched rows x
    matched = by_fit x (c.faces x.0 (half_lt (length rows) m) x.1)
