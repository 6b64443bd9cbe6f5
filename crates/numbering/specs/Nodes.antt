-- Document 02, F-6, "A node table": what the node call answers and leaves in the lent tables, for every input.
--     used, node_number              the ids in use, and the number of each
--     node_of, node, node_table      what the node table holds
--     node_count, first_unplaced     how many nodes there are; the first entry whose id has no place
--     number_order                   the call's refusals, in their order
--     Outcome, refused, numbered, numbered_in, number    the call
use Rattle.std.specs.Prelude.{ℕ, ◌*◌, Bool, false, not, ◌||◌, List, [], ◌∷◌, map, length, get_or, leb, eqb, if◌then◌else◌}
use Rattle.basics.specs.Lists.{gather, below, lowest, count}
use Rattle.lattice.specs.declared.Sizes.{Sizes}
use Rattle.lattice.specs.Counts.{points}
use Rattle.filling.specs.declared.Placed.{Placed}
use Rattle.filling.specs.Refusal.{Refusal, first_of, wrong_sizes, wrong_cuts, wrong_state, wrong_rows, found}
use Rattle.filling.specs.Fill.{overwritten}
use Rattle.filling.specs.Located.{id_fault, locate}
use Rattle.numbering.specs.declared.Numbered.{Numbered}

-- an id is in use if some entry of the row table is it
unfoldable pub used : List ℕ → ℕ → Bool
used [] id = false
used (entry ∷ rows) id = eqb entry id || used rows id

-- "node numbers from 0", "ascending": so many ids in use are below it
unfoldable pub node_number : List ℕ → ℕ → ℕ
node_number rows id = count (used rows) id

-- "with its three coordinates, as four 32-bit numbers a node"
unfoldable pub node_of : ℕ → Placed → List ℕ
node_of id p = id ∷ p.x ∷ p.y ∷ p.z ∷ []

-- the answer, the row table and the node table after the call
pub record Outcome : Type 0 where
  pub answer : Numbered
  pub rows : List ℕ
  pub nodes : List ℕ

module _ (s : Sizes) (cuts state rows : List ℕ) where
  -- "each id in use once"
  unfoldable pub node : ℕ → List ℕ
  node id = if used rows id then node_of id (locate s cuts state id) else []

  -- "ascending"; no id of 8N or more has a place
  unfoldable pub node_table : List ℕ
  node_table = gather node (below (8 * points s))

  -- how many nodes there are
  abbrev pub node_count : ℕ
  node_count = node_number rows (8 * points s)

  -- "for the first such entry of the row table": its index, or the table's length
  unfoldable pub first_unplaced : ℕ
  first_unplaced = lowest (λ i. not (eqb (id_fault s cuts state (get_or rows i 0)) 0)) (length rows)

  -- "Checks: 1, 3, 4, then 15 .., then 8 or 9, then 10"; "8 or 9 as the place call would", "the place is that entry's index from 0, and every
  -- other answer has place 0"
  abbrev pub number_order : List Refusal
  number_order =
      let first = first_unplaced in
      wrong_sizes s ∷ wrong_cuts s cuts ∷ wrong_state s state ∷ wrong_rows rows
      ∷ found (length rows) (id_fault s cuts state (get_or rows first 0)) first ∷ []

  module _ (nodes : List ℕ) where
    -- "A refusal changes neither table"
    abbrev pub refused : ℕ → ℕ → ℕ → Outcome
    refused n needed at = record { answer = record { number = n; nodes = needed; place = at }; rows = rows; nodes = nodes }

    -- "It answers 0 and the nodes written"; "It rewrites the rows as node numbers"; "entries past the last node stay"
    abbrev pub numbered : Outcome
    numbered =
        record {
          answer = record { number = 0; nodes = node_count; place = 0 };
          rows = map (node_number rows) rows;
          nodes = overwritten node_table nodes;
        }

    -- "If the node table holds fewer than four numbers a node, 10 is answered with the nodes needed"
    abbrev pub numbered_in : Outcome
    numbered_in = if leb (4 * node_count) (length nodes) then numbered else refused 10 node_count 0

    -- "every other refusal gives 0 nodes"
    unfoldable pub number : Outcome
    number = first_of (λ n at. refused n 0 at) number_order numbered_in
