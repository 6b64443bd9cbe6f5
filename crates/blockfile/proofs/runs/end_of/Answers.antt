-- The parts follow one another. Assumes nothing.
use mathlib.Core.Path.{◌∙◌}
use Rattle.blockfile.proofs.Parts.{ends}
use Rattle.blockfile.proofs.runs.end_of.Goals as goal

pub returns : goal.returns
returns c = ends _ _ (c.from-count.ensures ∙ c.two_at.ensures) c.run_bytes.ensures.value
