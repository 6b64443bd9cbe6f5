-- Distances of single cuts, and the choice among some of them, all live: document 02's F-2 by itself. Assumes nothing. (Files are checked in the
-- order of their names: this one first, so that a wrong distance or a wrong choice is refused by what it gives.)
--     distances, choices
use Prim.Native.Nat.{ℕ}
use mathlib.Core.Path.{◌≡◌, refl}
use mathlib.Core.List.{List, [], ◌∷◌, map}
use lib.ListN.{get_or}
use Rattle.std.proofs.Common.{None, Option, Some}
use Rattle.basics.specs.cases.Table.{Entry, ◌:=◌, table_of}
use Rattle.lattice.specs.Direction.{long, is_start, direction_of}
use Rattle.moving.specs.Violation.{rule1, limit, measured, squared, violation}
use Rattle.moving.specs.State.{is_move}
use Rattle.moving.specs.Nearest.{nearer, nearest_to, nearest}

-- a cut byte against a point with a code
abbrev against : Entry → Option ℕ
against (c := t) = violation rule1 c t

-- "With t counted from the point, compare 4 times t squared on long edges and 3 times t squared on short ones"
pub distances :
    map against (1 := 60 ∷ 8 := 196 ∷ 4 := 66 ∷ 11 := 190 ∷ 1 := 63 ∷ 1 := 64 ∷ 14 := 151 ∷ 14 := 150 ∷ 7 := 0 ∷ 14 := 0 ∷ [])
    ≡ Some 14400 ∷ Some 14400 ∷ Some 13068 ∷ Some 13068 ∷ Some 15876 ∷ None ∷ Some 33075 ∷ None ∷ None ∷ None ∷ []
unfolding violation limit measured squared long is_start direction_of
distances = refl

-- the code chosen among cuts with these bytes
abbrev chosen : List Entry → ℕ
chosen bytes = nearest (λ c. violation rule1 c (get_or (table_of 15 bytes) c 0))

unfoldable pub the_bytes : List (List Entry)
the_bytes =
    -- the shorter t is the farther cut; and just not
    (1 := 60 ∷ 4 := 66 ∷ [])
    ∷ (1 := 57 ∷ 4 := 66 ∷ [])
    -- from the ends of edges; from a start and an end
    ∷ (8 := 196 ∷ 11 := 190 ∷ [])
    ∷ (4 := 100 ∷ 11 := 200 ∷ [])
    -- "a tie goes to the lower code"
    ∷ (2 := 40 ∷ 9 := 216 ∷ [])
    ∷ (3 := 10 ∷ 5 := 80 ∷ 6 := 12 ∷ 10 := 246 ∷ [])
    -- one violates; none does
    ∷ (1 := 64 ∷ 12 := 151 ∷ [])
    ∷ (1 := 64 ∷ 12 := 150 ∷ [])
    ∷ []

pub choices : map chosen the_bytes ≡ 4 ∷ 1 ∷ 11 ∷ 11 ∷ 2 ∷ 3 ∷ 12 ∷ 0 ∷ []
unfolding the_bytes table_of is_move nearest_to nearer violation limit measured squared long is_start direction_of
choices = refl
