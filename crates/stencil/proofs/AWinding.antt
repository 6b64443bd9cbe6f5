-- What opposite windings are, in the least example. Assumes nothing.
--     two_ways       "exchanging two corners in the one's winding gives the other's", whichever two
--     same_refused   one winding is not opposite to itself
use Prim.Native.Nat.{ℕ}
use mathlib.Core.Path.{◌≡◌, refl, subst}
use mathlib.Core.Bool.{Bool, ◌&&◌}
use lib.Dec.{T, eqb}
use Rattle.stencil.specs.Row.{Face, face, t0, t1, t2, Opposite}

abbrev same : Face ℕ → Face ℕ → Bool
same (face x y z) (face u v w) = eqb x u && (eqb y v && eqb z w)

same_of : {g : Face ℕ} → face 0 1 2 ≡ g → T (same (face 0 1 2) g)
same_of e = subst (λ (g : Face ℕ). T (same (face 0 1 2) g)) e tt

pub two_ways : Opposite {A = ℕ} (face 0 1 2) (face 0 2 1)
    × (Opposite {A = ℕ} (face 0 1 2) (face 1 0 2) × Opposite {A = ℕ} (face 0 1 2) (face 2 1 0))
two_ways = ((t0, refl), ((t1, refl), (t2, refl)))

pub same_refused : Opposite {A = ℕ} (face 0 1 2) (face 0 1 2) → ⊥
same_refused (t0, e) = same_of e
same_refused (t1, e) = same_of e
same_refused (t2, e) = same_of e
