-- The four ids of a row that has a volume are different, so no two of its faces have the same three. Assumes nothing.
--     different                 with one id twice, a row would have no volume
--     one_face, one_opposite    two faces of a row that are the same, or opposite to one face, leave out one corner
use Prim.Native.Nat.{ℕ, ◌+◌}
use native.Mathlib.Omega.{arith}
use mathlib.Core.Path.{◌≡◌, refl, sym, ◌∙◌, ap, subst}
use lib.IntN.{ℤ, pos}
use lib.Signed.{◌<ℤ◌, <ℤ_irrefl}
use Rattle.stencil.specs.Tetrahedron.{Vertex, v0, v1, v2, v3}
use Rattle.stencil.specs.Row.{Row, row, Face, face, face_of, Third, t0, t1, t2, cycled, exchanged, Opposite}
use Rattle.geometry.specs.Place.{Place}
use Rattle.geometry.specs.Volume.{difference, triple, six_volume}
use Rattle.geometry.proofs.Determinant.{linear_first, linear_second, linear_third, null}
use Rattle.geometry.proofs.Determinant.{twice_last, twice_first, twice_outer}
use Rattle.filling.specs.Mesh.{row_volume}

pub record Different (a b c d : ℕ) : Type 0 where
  pub ab : a ≡ b → ⊥
  pub ac : a ≡ c → ⊥
  pub ad : a ≡ d → ⊥
  pub bc : b ≡ c → ⊥
  pub bd : b ≡ d → ⊥
  pub cd : c ≡ d → ⊥

module _ (place : ℕ → Place) (a : ℕ) where
  abbrev to : ℕ → Place
  to x = difference (place a) (place x)

  abbrev volume : ℕ → ℕ → ℕ → ℤ
  volume x y z = triple (to x) (to y) (to z)

  -- a difference is zero
  first_none : (y z : ℕ) → volume a y z ≡ pos 0
  first_none y z = null (λ u. triple u (to y) (to z)) (linear_first (to y) (to z)) (place a)

  second_none : (x z : ℕ) → volume x a z ≡ pos 0
  second_none x z = null (λ u. triple (to x) u (to z)) (linear_second (to x) (to z)) (place a)

  third_none : (x y : ℕ) → volume x y a ≡ pos 0
  third_none x y = null (triple (to x) (to y)) (linear_third (to x) (to y)) (place a)

  -- or two are the same
  pub different : (b c d : ℕ) → pos 0 <ℤ row_volume place (row a b c d) → Different a b c d
  unfolding row_volume six_volume
  different b c d h =
      record {
        ab = λ e. flat (ap (λ x. volume x c d) (sym e) ∙ first_none c d);
        ac = λ e. flat (ap (λ x. volume b x d) (sym e) ∙ second_none b d);
        ad = λ e. flat (ap (volume b c) (sym e) ∙ third_none b c);
        bc = λ e. flat (ap (λ x. volume b x d) (sym e) ∙ twice_first (to b) (to d));
        bd = λ e. flat (ap (volume b c) (sym e) ∙ twice_outer (to b) (to c));
        cd = λ e. flat (ap (volume b c) (sym e) ∙ twice_last (to b) (to c));
      }
    where
      flat : volume b c d ≡ pos 0 → ⊥
      flat e = <ℤ_irrefl (subst (λ (z : ℤ). pos 0 <ℤ z) e h)

-- the three ids added up
abbrev total : Face ℕ → ℕ
total (face x y z) = x + y + z

opposite_total : {f g : Face ℕ} → Opposite f g → total g ≡ total f
opposite_total {f} o = ap total o.1 ∙ same f o.0
  where
    same : (f : Face ℕ) (r : Third) → total (exchanged (cycled r f)) ≡ total f
    same (face x y z) t0 = omega arith
    same (face x y z) t1 = omega arith
    same (face x y z) t2 = omega arith

-- each face leaves out another id, so its total is another one
module _ {a b c d : ℕ} (h : Different a b c d) where
  by_total : (v w : Vertex) → total (face_of (row a b c d) v) ≡ total (face_of (row a b c d) w) → v ≡ w
  by_total v0 v0 e = refl
  by_total v0 v1 e = absurd (h.ab (omega arith))
  by_total v0 v2 e = absurd (h.ac (omega arith))
  by_total v0 v3 e = absurd (h.ad (omega arith))
  by_total v1 v0 e = absurd (h.ab (omega arith))
  by_total v1 v1 e = refl
  by_total v1 v2 e = absurd (h.bc (omega arith))
  by_total v1 v3 e = absurd (h.bd (omega arith))
  by_total v2 v0 e = absurd (h.ac (omega arith))
  by_total v2 v1 e = absurd (h.bc (omega arith))
  by_total v2 v2 e = refl
  by_total v2 v3 e = absurd (h.cd (omega arith))
  by_total v3 v0 e = absurd (h.ad (omega arith))
  by_total v3 v1 e = absurd (h.bd (omega arith))
  by_total v3 v2 e = absurd (h.cd (omega arith))
  by_total v3 v3 e = refl

module _ (place : ℕ → Place) (r : Row ℕ) (h : pos 0 <ℤ row_volume place r) (v w : Vertex) where
  corner : total (face_of r v) ≡ total (face_of r w) → v ≡ w
  corner = of_row r h
    where
      of_row : (r : Row ℕ) → pos 0 <ℤ row_volume place r → total (face_of r v) ≡ total (face_of r w) → v ≡ w
      of_row (row a b c d) h e = by_total (different place a b c d h) v w e

  pub one_face : face_of r v ≡ face_of r w → v ≡ w
  one_face e = corner (ap total e)

  pub one_opposite : {f : Face ℕ} → Opposite f (face_of r v) → Opposite f (face_of r w) → v ≡ w
  one_opposite o p = corner (opposite_total o ∙ sym (opposite_total p))
