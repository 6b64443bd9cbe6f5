-- How the rows of a tetrahedron cut its sides: by that side's own three labels, wherever the fourth corner stands in
-- the order and whatever its label is. So two neighbours split the side that they share alike: document 01's first
-- plausible fault is shut out. And without a plus there is no row. Computed for all 81 patterns. Assumes nothing.
use Prim.Native.Nat.{ℕ, ◌+◌, ◌*◌, ◌-◌, ◌^◌}
use mathlib.Core.Bool.{Bool, not}
use mathlib.Core.List.{List, [], ◌∷◌, map}
use lib.Dec.{T, eqb, ltb}
use lib.ListN.{length, get_or}
use Rattle.std.specs.Prelude.{if◌then◌else◌}
use Rattle.basics.specs.Lists.{gather}
use Rattle.basics.proofs.Test.{◌&◌, imp, every, any}
use Rattle.basics.proofs.Finite.{each, each_use}
use Rattle.basics.proofs.Tested.{same}
use Rattle.moving.specs.declared.Label.{Label}
use Rattle.moving.specs.declared.Label.TheVariants.{Plus}
use Rattle.moving.specs.Label.{is_plus, is_minus, is_zero}
use Rattle.stencil.specs.Tetrahedron.{Vertex, v3}
use Rattle.stencil.specs.Row.{Face, face, face_of}
use Rattle.stencil.specs.Stencil.{Entry, point, between, rank, cut, choose, stencil_of, rows_of, rows_for}
use Rattle.stencil.proofs.Corners.{the_vertices}
use Rattle.stencil.proofs.Patterns.{AllPatterns, all_patterns}

-- the corners of the side that leaves out x; their labels, beside a plus
unfoldable pub others : Vertex → List Vertex
others x = gather (λ v. if same the_vertices v x then [] else v ∷ []) the_vertices.all

unfoldable pub aside : Vertex → (Vertex → Label) → Vertex → Label
aside x l v = get_or (map l (others x)) (rank v) Plus

-- an entry of a side, counted among the side's own three corners: 3 times the one end and the other, a corner's ends
-- being itself; and a face as the set of its three entries
unfoldable pub among : Vertex → Vertex → ℕ
among x v = if ltb (rank x) (rank v) then rank v - 1 else rank v

unfoldable pub entry_number : Vertex → Entry Vertex → ℕ
entry_number x (point v) = 4 * among x v
entry_number x (between u v) = 3 * among x u + among x v

unfoldable pub face_number : Vertex → Face (Entry Vertex) → ℕ
face_number x (face a b c) = 2 ^ entry_number x a + 2 ^ entry_number x b + 2 ^ entry_number x c

-- an entry, a face, lies on the side that leaves out x
unfoldable pub entry_on : Vertex → Entry Vertex → Bool
entry_on x (point v) = not (same the_vertices v x)
entry_on x (between u v) = not (same the_vertices u x) & not (same the_vertices v x)

unfoldable pub face_on : Vertex → Face (Entry Vertex) → Bool
face_on x (face a b c) = entry_on x a & entry_on x b & entry_on x c

unfoldable pub faces_on : Vertex → (Vertex → Label) → List ℕ
faces_on x l = gather (λ r. gather (λ v. numbered (face_of r v)) the_vertices.all) (rows_for l)
  where
    numbered : Face (Entry Vertex) → List ℕ
    numbered f = if face_on x f then face_number x f ∷ [] else []

-- two lists of numbers hold the same numbers, and equally many
unfoldable pub alike : List ℕ → List ℕ → Bool
alike a b = every (λ n. any (eqb n) b) a & every (λ n. any (eqb n) a) b & eqb (length a) (length b)

unfoldable pub splits_alike : (Vertex → Label) → Vertex → Bool
splits_alike l x = imp (any is_plus (map l (others x))) (alike (faces_on x l) (faces_on v3 (aside x l)))

unfoldable pub empty_without_plus : (Vertex → Label) → Bool
empty_without_plus l = imp (not (any is_plus (map l the_vertices.all))) (eqb (length (rows_for l)) 0)

sides : AllPatterns (λ l. each the_vertices (splits_alike l))
unfolding
    ◌&◌ gather others aside among entry_number face_number entry_on face_on faces_on alike splits_alike
    is_plus is_minus is_zero cut choose stencil_of rows_of rows_for
sides = record { passed = tt }

empty : AllPatterns empty_without_plus
unfolding ◌&◌ empty_without_plus is_plus is_minus is_zero cut choose stencil_of rows_of rows_for
empty = record { passed = tt }

pub sides_split_alike : (l : Vertex → Label) (x : Vertex) → T (splits_alike l x)
sides_split_alike l = each_use the_vertices (splits_alike l) (all_patterns (λ l. each the_vertices (splits_alike l)) sides l)

pub empty_without_plus_law : (l : Vertex → Label) → T (empty_without_plus l)
empty_without_plus_law = all_patterns empty_without_plus empty
