-- What a call of filling leaves: the answer and both lent tables are the definition's.
use Rattle.std.specs.Prelude.{ℕ, ◌≡◌, List}
use Rattle.moving.specs.Block.{Block}
use Rattle.filling.specs.declared.Filled.{Filled}
use Rattle.filling.specs.Fill.{fill}

pub record Fills (band : ℕ) (b : Block) (state rows : List ℕ) (r : Filled) (stateAfter rowsAfter : List ℕ) : Type 0 where
  pub answer : r ≡ (fill band b state rows).answer
  pub state_is : stateAfter ≡ (fill band b state rows).state
  pub rows_are : rowsAfter ≡ (fill band b state rows).rows
