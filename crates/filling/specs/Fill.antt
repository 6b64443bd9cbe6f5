-- Document 01, "Calls and refusals", and document 02's F-3, F-8 and F-9: what filling answers and leaves in the lent tables, for every
-- input.
--     moved_count, overwritten    M; a list over the first entries of a table
--     refused, written            the outcome of a refusal, and that of a block that passes them
--     fill_order, fill            the call's refusals, in their order; the call
use Rattle.std.specs.Prelude.{ℕ, ◌*◌, List, [], ◌∷◌, ◌++◌, length, get_or, drop, leb, if◌then◌else◌}
use Rattle.basics.specs.Lists.{count}
use Rattle.moving.specs.Label.{labels}
use Rattle.moving.specs.State.{is_move}
use Rattle.moving.specs.Reading.{Reading}
use Rattle.moving.specs.Moving.{state_of}
use Rattle.moving.specs.Block.{Block, reading_of}
use Rattle.filling.specs.declared.Filled.{Filled}
use Rattle.filling.specs.Mesh.{rows_with, table}
use Rattle.filling.specs.Refusal.{Refusal, first_of, wrong_sizes, wrong_band, wrong_samples, wrong_cuts, wrong_state, plus_on_rim, wrong_byte}

-- the answer, the state table and the row table after the call
pub record Outcome : Type 0 where
  pub answer : Filled
  pub state : List ℕ
  pub rows : List ℕ

-- how many points moved. F-8: "M now counts codes 1 to 14"
unfoldable pub moved_count : List ℕ → ℕ
moved_count state = count (λ p. is_move (get_or state p 0)) (length state)

-- a list over the first entries of a table, the others as they were; "entries beyond 4T stay untouched"
unfoldable pub overwritten : List ℕ → List ℕ → List ℕ
overwritten new old = new ++ drop (length new) old

module _ (state rows : List ℕ) where
  -- "Refusals 1 to 7 write nothing. .. T 0, M 0, and place 0 unless named"; F-3, of 14: "it writes nothing"
  abbrev pub refused : ℕ → ℕ → Outcome
  refused n at = record { answer = record { number = n; rows = 0; moved = 0; place = at }; state = state; rows = rows }

  -- "Filling answers 0 with T, the rows written, M, .. and place 0"; "After 10 the state table is filled, the row table is untouched, T and M
  -- are those a longer table would have had, and place is 0"
  unfoldable pub written : Reading → Outcome
  written m =
      let codes = state_of m in
      let mesh = rows_with m codes in
      let fits = leb (4 * length mesh) (length rows) in
      record {
        answer = record { number = if fits then 0 else 10; rows = length mesh; moved = moved_count codes; place = 0 };
        state = codes;
        rows = if fits then overwritten (table mesh) rows else rows;
      }

module _ (band : ℕ) (b : Block) (state : List ℕ) where
  -- "1 to 5, then the lowest byte that is a 6 or a 7 (its offset is the place), then 10"; F-3: 14 "directly after 1"; F-9: "rim and cut-byte
  -- tests read labels". 10 is not in the list: it needs the rows, and `written` finds it
  abbrev pub fill_order : List Refusal
  fill_order =
      let s = b.sizes in
      let label = labels band b.samples in
      wrong_sizes s ∷ wrong_band band ∷ wrong_samples s b.samples ∷ wrong_cuts s b.cuts ∷ wrong_state s state
      ∷ plus_on_rim s label ∷ wrong_byte s label b.cuts ∷ []

  unfoldable pub fill : List ℕ → Outcome
  fill rows = first_of (refused state rows) fill_order (written state rows (reading_of band b))
