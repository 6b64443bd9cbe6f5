-- A call of filling and calls of the place of an id, with all that separate software answered and wrote.
use Rattle.std.specs.Prelude.{ℕ, ◌-◌, List, ◌++◌, map, ℤ, pos, neg_ℤ, length}
use Rattle.basics.specs.cases.Table.{Entry, entered, table_of}
use Rattle.lattice.specs.declared.Sizes.{Sizes}
use Rattle.moving.specs.Block.{Block, block_of}
use Rattle.filling.specs.declared.Filled.{Filled}
use Rattle.filling.specs.declared.Placed.{Placed}
use Rattle.filling.specs.Fill.{Outcome, fill}
use Rattle.filling.specs.Located.{locate}
use Rattle.casebook.specs.cases.Lent.{lent_state, lent_rows, State, state_table}

abbrev pub neg : ℕ → ℤ
neg n = neg_ℤ (pos n)

-- the place of an id, asked after filling and with one entry of the state table set
pub record Question : Type 0 where
  pub entry : Entry
  pub id : ℕ
  pub placed : Placed

abbrev pub ask : Entry → ℕ → ℕ → ℕ → ℕ → ℕ → Question
ask e id n x y z = record { entry = e; id = id; placed = record { number = n; x = x; y = y; z = z } }

-- the ids are those that stand in the row table's first numbers afterwards; all after them are as lent
pub record Example : Type 0 where
  pub sizes : Sizes
  pub samples : List ℤ
  pub cuts_length : ℕ
  pub cuts : List Entry
  pub state_length : ℕ
  pub rows_length : ℕ
  pub answer : Filled
  pub state : State
  pub ids : List ℕ
  pub questions : List Question

-- what is compared: the answer, both tables whole, and the places
pub record Result : Type 0 where
  pub outcome : Outcome
  pub places : List Placed

unfoldable pub block_in : Example → Block
block_in e = block_of e.sizes e.samples (table_of e.cuts_length e.cuts)

-- by the separate software
unfoldable pub recorded : Example → Result
recorded e =
    record {
      outcome =
          record {
            answer = e.answer;
            state = state_table e.state_length e.state;
            rows = e.ids ++ lent_rows (e.rows_length - length e.ids);
          };
      places = map (λ q. q.placed) e.questions;
    }

-- by the definitions
unfoldable pub asked : Block → List ℕ → Question → Placed
asked b state q = locate b.sizes b.cuts (entered q.entry state) q.id

unfoldable pub answered : Block → Outcome → List Question → Result
answered b o qs = record { outcome = o; places = map (asked b o.state) qs }

-- recorded with band 0
unfoldable pub defined : Example → Result
defined e =
    let b = block_in e in
    answered b (fill 0 b (lent_state e.state_length) (lent_rows e.rows_length)) e.questions
