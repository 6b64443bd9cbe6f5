-- What the node call answers for an outcome of the code.
--     answer_of     the nodes written, or a refusal's number with its place
--     Says          an answer and two tables are what the call says
use Rattle.std.specs.Prelude.{ℕ, ◌≡◌, List, Result, Ok, Err}
use Rattle.lattice.specs.declared.Sizes.{Sizes}
use Rattle.refusals.specs.inner.Numbers.{refusal_number}
use Rattle.numbering.specs.declared.Numbered.{Numbered}
use Rattle.numbering.specs.Nodes.{number}
use Rattle.nodes.specs.declared.refused.Refused.{Refused}
use Rattle.nodes.specs.declared.refused.Refused.TheVariants.{Call, Entry, Short}

unfoldable pub answer_of : Result ℕ Refused → Numbered
answer_of (Ok n) = record { number = 0; nodes = n; place = 0 }
answer_of (Err (Call r)) = record { number = refusal_number r; nodes = 0; place = 0 }
answer_of (Err (Entry e)) = record { number = refusal_number e.refusal; nodes = 0; place = e.entry }
answer_of (Err (Short n)) = record { number = 10; nodes = n; place = 0 }

pub record Says (s : Sizes) (cuts state rows nodes : List ℕ) (r : Numbered) (after news : List ℕ) : Type 0 where
  pub is_answer : r ≡ (number s cuts state rows nodes).answer
  pub is_rows : after ≡ (number s cuts state rows nodes).rows
  pub is_nodes : news ≡ (number s cuts state rows nodes).nodes
