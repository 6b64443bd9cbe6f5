-- The corners of a tetrahedron, the quarters of a turn and the corners of a face as finite types; corners of one rank
-- are one. Assumes nothing.
use Prim.Native.Nat.{ℕ}
use mathlib.Core.Path.{◌≡◌, refl, sym, ◌∙◌, ap}
use mathlib.Core.List.{[], ◌∷◌}
use lib.ListN.{get_or}
use Rattle.basics.proofs.Test.{here, there, Member}
use Rattle.basics.proofs.Finite.{Finite}
use Rattle.stencil.specs.Tetrahedron.{Vertex, v0, v1, v2, v3, Quarter, q0, q1, q2, q3}
use Rattle.stencil.specs.Row.{Third, t0, t1, t2}
use Rattle.stencil.specs.Stencil.{rank}

abbrev pub the_vertices : Finite Vertex
the_vertices = record { all = v0 ∷ v1 ∷ v2 ∷ v3 ∷ []; complete = complete }
  where
    complete : (v : Vertex) → Member v (v0 ∷ v1 ∷ v2 ∷ v3 ∷ [])
    complete v0 = here
    complete v1 = there here
    complete v2 = there (there here)
    complete v3 = there (there (there here))

by_rank : (v : Vertex) → get_or the_vertices.all (rank v) v0 ≡ v
by_rank v0 = refl
by_rank v1 = refl
by_rank v2 = refl
by_rank v3 = refl

pub rank_inj : (u v : Vertex) → rank u ≡ rank v → u ≡ v
rank_inj u v e = sym (by_rank u) ∙ ap (λ (n : ℕ). get_or the_vertices.all n v0) e ∙ by_rank v

abbrev pub the_quarters : Finite Quarter
the_quarters = record { all = q0 ∷ q1 ∷ q2 ∷ q3 ∷ []; complete = complete }
  where
    complete : (q : Quarter) → Member q (q0 ∷ q1 ∷ q2 ∷ q3 ∷ [])
    complete q0 = here
    complete q1 = there here
    complete q2 = there (there here)
    complete q3 = there (there (there here))

abbrev pub the_thirds : Finite Third
the_thirds = record { all = t0 ∷ t1 ∷ t2 ∷ []; complete = complete }
  where
    complete : (t : Third) → Member t (t0 ∷ t1 ∷ t2 ∷ [])
    complete t0 = here
    complete t1 = there here
    complete t2 = there (there here)
