-- The loop's invariant: the ids of the windows gone over are counted and have places. Assumes nothing.
use Rattle.nodes.specs.inner.Rounds.{Surveyed}
use Rattle.nodes.proofs.survey.survey.Given as goal

abbrev pub invariant-loop-index : goal.invariant-loop-index
invariant-loop-index l = Surveyed l.stored l.rows l.index l.total
