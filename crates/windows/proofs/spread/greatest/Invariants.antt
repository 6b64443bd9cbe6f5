-- The loop's invariant: the entries below the index are at most what was found. Assumes nothing.
use Rattle.windows.proofs.Slots.{MostTo}
use Rattle.windows.proofs.spread.greatest.Given as goal

abbrev pub invariant-loop-id : goal.invariant-loop-id
invariant-loop-id l = MostTo l.most l.rows l.id-index
