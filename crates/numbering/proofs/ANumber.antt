-- What the node call makes of rows of a block of one cube. Assumes nothing. (Files are checked in the order of their names: this one first,
-- so that a wrong rule is refused by what it gives.)
use Prim.Native.Nat.{ℕ}
use mathlib.Core.Path.{◌≡◌, refl}
use mathlib.Core.List.{List, [], ◌∷◌, ◌++◌, map}
use lib.ListN.{replicate}
use Rattle.basics.specs.cases.Table.{◌:=◌, table_of}
use Rattle.filling.proofs.Opened.{definitions}
use Rattle.numbering.specs.Nodes.{Outcome, used, node_number, node_of, node, node_table, first_unplaced, number}

-- the row table, and how many numbers the node table holds
pub record Call : Type 0 where
  pub rows : List ℕ
  pub room : ℕ

abbrev call : List ℕ → ℕ → Call
call rows room = record { rows = rows; room = room }

abbrev lent : ℕ → List ℕ
lent n = replicate n 77

-- one cube: corners 0 to 7, its centre 8, and a cut on the edge from 0 to 1, which is id 9; no other cut, so 10 to 71 have no place
abbrev outcome_of : Call → Outcome
outcome_of c =
    number (record { nx = 1; ny = 1; nz = 1 }) (table_of 63 (0 := 193 ∷ [])) (replicate 9 0) c.rows (lent c.room)

unfoldable pub calls : List Call
calls =
    call (8 ∷ 0 ∷ 9 ∷ 0 ∷ []) 14
    -- too short by a number, and just long enough
    ∷ call (8 ∷ 0 ∷ 9 ∷ 0 ∷ []) 11
    ∷ call (8 ∷ 0 ∷ 9 ∷ 0 ∷ []) 12
    -- an id without a place in the second row, and in the first with no room besides; a row that is not whole
    ∷ call (8 ∷ 0 ∷ 9 ∷ 0 ∷ 0 ∷ 71 ∷ 10 ∷ 8 ∷ []) 12
    ∷ call (8 ∷ 72 ∷ 9 ∷ 0 ∷ []) 11
    ∷ call (8 ∷ 72 ∷ 9 ∷ []) 11
    ∷ []

abbrev outcome : ℕ → ℕ → ℕ → List ℕ → List ℕ → Outcome
outcome n m p rows nodes = record { answer = record { number = n; nodes = m; place = p }; rows = rows; nodes = nodes }

abbrev table : List ℕ
table = 0 ∷ 0 ∷ 0 ∷ 0 ∷ 8 ∷ 256 ∷ 256 ∷ 256 ∷ 9 ∷ 386 ∷ 0 ∷ 0 ∷ []

unfoldable pub outcomes : List Outcome
outcomes =
    outcome 0 3 0 (1 ∷ 0 ∷ 2 ∷ 0 ∷ []) (table ++ lent 2)
    ∷ outcome 10 3 0 (8 ∷ 0 ∷ 9 ∷ 0 ∷ []) (lent 11)
    ∷ outcome 0 3 0 (1 ∷ 0 ∷ 2 ∷ 0 ∷ []) table
    ∷ outcome 8 0 5 (8 ∷ 0 ∷ 9 ∷ 0 ∷ 0 ∷ 71 ∷ 10 ∷ 8 ∷ []) (lent 12)
    ∷ outcome 8 0 1 (8 ∷ 72 ∷ 9 ∷ 0 ∷ []) (lent 11)
    ∷ outcome 15 0 0 (8 ∷ 72 ∷ 9 ∷ []) (lent 11)
    ∷ []

pub numbers_so : map outcome_of calls ≡ outcomes
unfolding definitions used node_number node_of node node_table first_unplaced number calls outcomes
numbers_so = refl
