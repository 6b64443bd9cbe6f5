-- What is compared of a case: the answer, the whole state table, the row table as far as it must stay as lent, and the case's claims.
use Rattle.std.specs.Prelude.{ℕ, ◌*◌, ◌-◌, List, map, get_or, drop, eqb, if◌then◌else◌}
use Rattle.basics.specs.cases.Table.{entered}
use Rattle.lattice.specs.Counts.{points, tetrahedra}
use Rattle.moving.specs.Block.{Block}
use Rattle.stencil.specs.Row.{Row, row}
use Rattle.geometry.specs.Place.{place_of}
use Rattle.filling.specs.declared.Filled.{Filled}
use Rattle.filling.specs.Mesh.{row_volume}
use Rattle.filling.specs.Fill.{Outcome, fill}
use Rattle.filling.specs.Located.{locate}
use Rattle.casebook.specs.cases.Lent.{lent_state, lent_rows, state_table}
use Rattle.casebook.specs.cases.Cases.{Case, Claim, counts, first_row_is, place_is, place_with}

pub record Result : Type 0 where
  pub answer : Filled
  pub state : List ℕ
  pub untouched : List ℕ
  pub claims : List Claim

-- the row table has 4T numbers of rows if filling answers 0, and else none
abbrev pub written : Filled → ℕ
written a = if eqb a.number 0 then 4 * a.rows else 0

-- by the papers
unfoldable pub expected : Case → Result
expected c =
    record {
      answer = c.answer;
      state = state_table (points c.block.sizes) c.state;
      untouched = lent_rows (c.numbers - written c.answer);
      claims = c.claims;
    }

-- by the definitions
module _ (b : Block) (o : Outcome) where
  abbrev pub first_row : Row ℕ
  first_row = row (get_or o.rows 0 0) (get_or o.rows 1 0) (get_or o.rows 2 0) (get_or o.rows 3 0)

  unfoldable pub found : Claim → Claim
  found (counts n l) = counts (points b.sizes) (tetrahedra b.sizes)
  found (first_row_is r v) = first_row_is first_row (row_volume (place_of b.sizes b.cuts o.state) first_row)
  found (place_is id p) = place_is id (locate b.sizes b.cuts o.state id)
  found (place_with e id p) = place_with e id (locate b.sizes b.cuts (entered e o.state) id)

  unfoldable pub result_of : List Claim → Result
  result_of claims =
      record {
        answer = o.answer;
        state = o.state;
        untouched = drop (written o.answer) o.rows;
        claims = map found claims;
      }

unfoldable pub computed : Case → Result
computed c =
    let b = c.block in
    result_of b (fill c.band b (lent_state (points b.sizes)) (lent_rows c.numbers)) c.claims
