-- The refusal's line after no text. Assumes nothing.
use native.Mathlib.Omega.{arith}
use Rattle.fill_file.specs.program.Summary.{refusal}
use Rattle.fill_file.specs.inner.Answer.{answer_of}
use Rattle.fill_file.proofs.Texts.{refusal_printed}
use Rattle.fill_file.proofs.printing.refusal.Goals as goal

pub returns : goal.returns
unfolding answer_of refusal
returns c = refusal_printed _ (λ z. omega arith) (rw c.new-text.ensures at c.push_refusal.ensures)
