-- What demand 3 refuses, in the least lists of rows: a face of three rows, a face of two that wind it the same way, a
-- face of one row that is not on the skin, a flat row. Assumes nothing.
use Prim.Native.Nat.{ℕ, zero, suc}
use native.Mathlib.Omega.{arith}
use mathlib.Core.Path.{◌≡◌, refl, subst}
use mathlib.Core.Logic.{inl, inr}
use mathlib.Core.Bool.{Bool, ◌&&◌}
use mathlib.Core.List.{List, [], ◌∷◌}
use lib.IntN.{pos}
use lib.Dec.{T, eqb}
use Rattle.lattice.specs.Axis.{xyz}
use Rattle.stencil.specs.Tetrahedron.{v0, v1, v2, v3}
use Rattle.stencil.specs.Row.{Row, row, Face, face, t0, t1, t2, Holds}
use Rattle.geometry.specs.Volume.{cross, dot, triple, six_volume}
use Rattle.filling.specs.Mesh.{row_volume}
use Rattle.filling.specs.Demand.{FaceFits, shared, boundary, Conforms}

-- three rows with the face 0 1 2: no two of them are its only rows
abbrev three : List (Row ℕ)
three = row 0 1 2 3 ∷ row 0 2 1 4 ∷ row 0 1 2 5 ∷ []

pub third_refused : (Skin : ℕ → Type 0) → FaceFits three Skin 0 v3 → ⊥
third_refused Skin f = go f
  where
    second : Holds {A = ℕ} (row 0 2 1 4) (face 0 2 1)
    second t0 = (v0, refl)
    second t1 = (v1, refl)
    second t2 = (v2, refl)

    third : Holds {A = ℕ} (row 0 1 2 5) (face 0 2 1)
    third t0 = (v0, refl)
    third t1 = (v2, refl)
    third t2 = (v1, refl)

    go : FaceFits three Skin 0 v3 → ⊥
    go (shared j w l n o only) =
        elim (only 1 (omega arith) second) [
          | inl e ↦ omega arith
          | inr e ↦ elim (only 2 (omega arith) third) [ inl f ↦ omega arith | inr f ↦ omega arith ]
        ]
    go (boundary only on) = omega (arith, only 1 (omega arith) second)

-- two rows with the face 0 1 2, both of which wind it as 0 2 1
abbrev two : List (Row ℕ)
two = row 0 1 2 3 ∷ row 0 1 2 4 ∷ []

abbrev same : Face ℕ → Face ℕ → Bool
same (face x y z) (face u v w) = eqb x u && (eqb y v && eqb z w)

same_of : {f g : Face ℕ} → T (same f f) → f ≡ g → T (same f g)
same_of {f} t e = subst (λ (g : Face ℕ). T (same f g)) e t

pub same_way_refused : (Skin : ℕ → Type 0) → FaceFits two Skin 0 v3 → ⊥
same_way_refused Skin (shared zero w l n o only) = n refl
same_way_refused Skin (shared (suc zero) v0 l n (t0, e) only) = same_of tt e
same_way_refused Skin (shared (suc zero) v0 l n (t1, e) only) = same_of tt e
same_way_refused Skin (shared (suc zero) v0 l n (t2, e) only) = same_of tt e
same_way_refused Skin (shared (suc zero) v1 l n (t0, e) only) = same_of tt e
same_way_refused Skin (shared (suc zero) v1 l n (t1, e) only) = same_of tt e
same_way_refused Skin (shared (suc zero) v1 l n (t2, e) only) = same_of tt e
same_way_refused Skin (shared (suc zero) v2 l n (t0, e) only) = same_of tt e
same_way_refused Skin (shared (suc zero) v2 l n (t1, e) only) = same_of tt e
same_way_refused Skin (shared (suc zero) v2 l n (t2, e) only) = same_of tt e
same_way_refused Skin (shared (suc zero) v3 l n (t0, e) only) = same_of tt e
same_way_refused Skin (shared (suc zero) v3 l n (t1, e) only) = same_of tt e
same_way_refused Skin (shared (suc zero) v3 l n (t2, e) only) = same_of tt e
same_way_refused Skin (shared (suc (suc j)) w l n o only) = omega (arith, l)
same_way_refused Skin (boundary only on) = omega (arith, only 1 (omega arith) second)
  where
    second : Holds {A = ℕ} (row 0 1 2 4) (face 0 2 1)
    second t0 = (v0, refl)
    second t1 = (v2, refl)
    second t2 = (v1, refl)

-- a row by itself, and nothing on the skin
pub lone_refused : FaceFits (row 0 1 2 3 ∷ []) (λ _. ⊥) 0 v3 → ⊥
lone_refused (shared j w l n o only) = n (omega (arith, l))
lone_refused (boundary only on) = on t0

-- a row whose four corners are one place
pub flat_refused : (Skin : ℕ → Type 0) → Conforms (row 0 1 2 3 ∷ []) (λ _. xyz (pos 0) (pos 0) (pos 0)) Skin → ⊥
unfolding row_volume six_volume triple dot cross
flat_refused Skin c = (c.volumes 0 (omega arith)).lt
