-- The list of the boundary's faces holds the faces in one row only, and no others. Assumes nothing.
--     from_alone        a face of the list is one that is alone
--     in_one_row        so it is the face of one row that no other row holds
--     one_row_listed    and each such face stands in the list
--     listed_once       in rows that conform to demand 3, none stands there twice
use Prim.Native.Nat.{ℕ, ◌<◌}
use mathlib.Core.Path.{◌≡◌, refl, sym, subst}
use mathlib.Core.Bool.{Bool, true, false}
use mathlib.Core.List.{List, [], ◌∷◌}
use lib.Dec.{T}
use lib.ListN.{length}
use Rattle.std.specs.Prelude.{if◌then◌else◌}
use Rattle.basics.specs.Lists.{gather}
use Rattle.basics.proofs.Test.{Member, here, there, true_T}
use Rattle.basics.proofs.Gather.{NoRepeats, empty, more, gather_i, gather_part}
use Rattle.stencil.specs.Tetrahedron.{Vertex}
use Rattle.stencil.specs.Row.{Row, Face, face_of, Holds}
use Rattle.geometry.specs.Place.{Place}
use Rattle.filling.specs.Demand.{nth_row, Conforms}
use Rattle.faces.proofs.Windings.{holds_own}
use Rattle.boundary.specs.Boundary.{HalfFace, half_faces, outward, alone, if_alone, boundary_faces}
use Rattle.boundary.proofs.Different.{one_face}
use Rattle.boundary.proofs.Alone.{alone_use, alone_i}
use Rattle.boundary.proofs.HalfFaces.{half_i, half_lt, half_once}

module _ (rows : List (Row ℕ)) where
  -- the half-face that a face of a list is from
  from_list : {g : Face ℕ} (l : List HalfFace) → Member g (gather (if_alone rows) l)
      → (x : HalfFace) × Member x l × T (alone rows x) × (outward rows x ≡ g)
  unfolding if_alone
  from_list {g} l m =
      let (x, p, q) = gather_part (if_alone rows) l m in
      let k = kept (alone rows x) (outward rows x) q in
      (x, p, k.0, k.1)
    where
      kept : (b : Bool) (h : Face ℕ) → Member g (if b then h ∷ [] else []) → T b × (h ≡ g)
      kept true h here = (tt, refl)
      kept true h (there m) = elim m [ ]
      kept false h m = elim m [ ]

  pub from_alone : {g : Face ℕ} → Member g (boundary_faces rows)
      → (x : HalfFace) × Member x (half_faces (length rows)) × T (alone rows x) × (outward rows x ≡ g)
  unfolding boundary_faces
  from_alone m = from_list (half_faces (length rows)) m

  pub in_one_row : (g : Face ℕ) → Member g (boundary_faces rows)
      → (i : ℕ) × (v : Vertex) × (i < length rows) × (face_of (nth_row rows i) v ≡ g)
      × ((k : ℕ) → k < length rows → Holds (nth_row rows k) g → k ≡ i)
  in_one_row g m =
      let (x, p, t, e) = from_alone m in
      (x.0, x.1, half_lt (length rows) p, e, λ k l h. alone_use rows x t k l (rw e h))

  pub one_row_listed : (i : ℕ) (v : Vertex) → i < length rows
      → ((k : ℕ) → k < length rows → Holds (nth_row rows k) (face_of (nth_row rows i) v) → k ≡ i)
      → Member (face_of (nth_row rows i) v) (boundary_faces rows)
  unfolding boundary_faces if_alone
  one_row_listed i v l own =
      gather_i (if_alone rows) (half_i (length rows) i v l) (rw (alone_i rows (i, v) own) here)

  -- one that is alone has another face than every other in a list
  Apart : List HalfFace → Type 0
  Apart l = (x z : HalfFace) → Member z l → T (alone rows x) → outward rows x ≡ outward rows z → x ≡ z

  once : (l : List HalfFace) → NoRepeats l → Apart l → NoRepeats (gather (if_alone rows) l)
  unfolding gather if_alone Apart
  once [] p d = empty
  once (x ∷ l) (more n p) d = with_first (alone rows x) refl (once l p (λ y z j. d y z (there j)))
    where
      new : T (alone rows x) → Member (outward rows x) (gather (if_alone rows) l) → ⊥
      new t m =
          let (z, q, u, e) = from_list l m in
          n (subst (λ (y : HalfFace). Member y l) (sym (d x z (there q) t (sym e))) q)

      with_first : (b : Bool) → alone rows x ≡ b → NoRepeats (gather (if_alone rows) l)
          → NoRepeats (gather (if_alone rows) (x ∷ l))
      with_first true e r = rw e (more (new (true_T (alone rows x) e)) r)
      with_first false e r = rw e r

module _ {rows : List (Row ℕ)} {place : ℕ → Place} {Skin : ℕ → Type 0} (c : Conforms rows place Skin) where
  -- the row of z holds the face of x; and the faces of a row that has a volume are different
  apart : Apart rows (half_faces (length rows))
  unfolding Apart
  apart x z q t e = λ i. (same i, corner i)
    where
      inside : z.0 < length rows
      inside = half_lt (length rows) q

      same : x.0 ≡ z.0
      same = sym (alone_use rows x t z.0 inside (rw e (holds_own (nth_row rows z.0) z.1)))

      corner : x.1 ≡ z.1
      corner = one_face place (nth_row rows z.0) (c.volumes z.0 inside) x.1 z.1 (rw same at e)

  pub listed_once : NoRepeats (boundary_faces rows)
  unfolding boundary_faces
  listed_once = once rows (half_faces (length rows)) (half_once (length rows)) apart
