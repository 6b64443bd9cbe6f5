-- Moving in a block of one cube, whose points are the corners 0 to 7 and the centre 8: which points move, and by which codes.
-- Assumes nothing. (Files are checked in the order of their names: AChoice and this one first, so that a wrong rule is refused by what it gives.)
--     codes                   the bytes that are moves, and those that are no moves
--     one_cube_law                the state tables of the cases
--     beside_a_band           a cut beside a point in the band is not live
use Prim.Native.Nat.{ℕ}
use mathlib.Core.Path.{◌≡◌, refl}
use mathlib.Core.Bool.{Bool}
use mathlib.Core.List.{List, [], ◌∷◌, map}
use lib.IntN.{pos, neg_ℤ}
use lib.ListN.{replicate, set}
use Rattle.std.specs.Prelude.{if◌then◌else◌}
use Rattle.basics.specs.Lists.{gather, from, below}
use Rattle.basics.specs.cases.Table.{Entry, ◌:=◌, table_of}
use Rattle.lattice.specs.Counts.{cells, points}
use Rattle.lattice.specs.Point.{linear, cell, kind_of}
use Rattle.lattice.specs.Direction.{directions, direction, long, is_start, direction_of, step}
use Rattle.lattice.specs.Edge.{stays_in, far_kind, far_index, near, edge_byte}
use Rattle.moving.specs.Label.{label_of, labels, is_zero}
use Rattle.moving.specs.Violation.{limit, measured, squared, violation}
use Rattle.moving.specs.State.{is_move, no_move}
use Rattle.moving.specs.Nearest.{nearer, nearest_to}
use Rattle.moving.specs.Reading.{label_after, live, violation_along}
use Rattle.moving.specs.Order.{move_to, turn, move_by}
use Rattle.moving.specs.Moving.{mark_of, choice, outset, state_at, state_of}
use Rattle.moving.specs.Block.{Block, block_of, reading_of}

-- of all bytes 1 to 14 are moves, 0 and 15 are no moves, and any above 15 is neither
abbrev those : (ℕ → Bool) → List ℕ
those f = gather (λ c. if f c then c ∷ [] else []) (below 256)

pub codes : (those is_move ≡ from 1 14) × (those no_move ≡ 0 ∷ 15 ∷ [])
unfolding gather from is_move no_move
codes = (refl, refl)

-- a case: the one plus point among minus ones, its cut bytes that are not 0, and the codes that must come out
pub record Case : Type 0 where
  pub plus : ℕ
  pub bytes : List Entry
  pub moves : List Entry

abbrev pub case : ℕ → List Entry → List Entry → Case
case p b m = record { plus = p; bytes = b; moves = m }

unfoldable pub block : Case → Block
block c =
    block_of (record { nx = 1; ny = 1; nz = 1 }) (set (replicate 9 (neg_ℤ (pos 5))) c.plus (pos 5)) (table_of 63 c.bytes)

unfoldable pub the_cases : List Case
the_cases =
    -- codes 1 and 4 of point 0 violate: "4 times t squared on long edges and 3 times t squared on short ones", 14,400 and 13,068
    case 0 (0 := 60 ∷ 3 := 66 ∷ []) (0 := 4 ∷ [])
    -- codes 4 and 11 of point 8, "With t counted from the point": 100 and 56
    ∷ case 8 (3 := 200 ∷ 59 := 100 ∷ []) (8 := 11 ∷ [])
    -- "A cut is live while both its ends have non-zero labels": once point 0 has moved, the cut towards point 8 no longer moves it
    ∷ case 0 (0 := 63 ∷ 3 := 151 ∷ []) (0 := 1 ∷ [])
    -- "in ascending number": point 1 moves before point 8 does, whose move would have ended that cut
    ∷ case 8 (3 := 200 ∷ 11 := 100 ∷ []) (1 := 5 ∷ 8 := 11 ∷ [])
    ∷ []

pub one_cube_law : map (λ c. state_of (reading_of 0 (block c))) the_cases ≡ map (λ c. table_of 9 c.moves) the_cases
unfolding
    the_cases block table_of state_at mark_of outset move_by turn is_move move_to from choice nearest_to nearer violation_along
    label_of labels live label_after is_zero violation limit measured squared
    cells points linear cell kind_of directions direction long is_start direction_of step stays_in far_kind far_index near edge_byte
one_cube_law = refl

-- F-3, "a cut byte beside a zero label is simply not live": the cut from point 0 to point 8, whose sample is -3, violates point 0; by the band 2
-- it moves there, by the band 3 it stays. F-8: point 8 then has the mark
unfoldable pub banded : ℕ → List ℕ
banded band =
    state_of
    (reading_of band
    (block_of (record { nx = 1; ny = 1; nz = 1 }) (set (set (replicate 9 (neg_ℤ (pos 5))) 0 (pos 5)) 8 (neg_ℤ (pos 3))) (table_of 63 (3 := 60 ∷ []))))

pub beside_a_band : map banded (2 ∷ 3 ∷ []) ≡ table_of 9 (0 := 4 ∷ []) ∷ table_of 9 (8 := 15 ∷ []) ∷ []
unfolding
    banded table_of state_at mark_of outset move_by turn is_move move_to from choice nearest_to nearer violation_along
    label_of labels live label_after is_zero violation limit measured squared
    cells points linear cell kind_of directions direction long is_start direction_of step stays_in far_kind far_index near edge_byte
beside_a_band = refl
