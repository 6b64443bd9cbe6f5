-- Tables that pass the node call's checks of sizes and lengths: 1, 3, 4 and 15.
use Rattle.std.specs.Prelude.{◌*◌, ◌%◌, ℕ, ◌≡◌, List, length}
use Rattle.lattice.specs.declared.Sizes.{Sizes}
use Rattle.lattice.specs.Counts.{points, Sized}

pub record Whole (s : Sizes) (cuts state rows : List ℕ) : Type 0 where
  pub sized : Sized s
  pub cuts_long : length cuts ≡ 7 * points s
  pub state_long : length state ≡ points s
  -- "The row table must hold whole rows"
  pub rows_whole : length rows % 4 ≡ 0
