-- Lists written into a table.
use Rattle.std.specs.Prelude.{ℕ, ◌+◌, ◌≡◌, List, length}
use Rattle.std.proofs.lemmas.List.Edits.{sets}

-- ids written into a table from an index on: what it then holds, and the index after them
pub record Wrote (ids l : List ℕ) (at : ℕ) (now : List ℕ) (to : ℕ) : Type 0 where
  pub now_is : now ≡ sets l at ids
  pub to_is : to ≡ at + length ids
