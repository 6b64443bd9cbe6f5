-- The loop's invariant: the entries before the index have places. Assumes nothing.
use Rattle.coordinates.proofs.Checking.{Before}
use Rattle.coordinates.proofs.check.first_unplaced.Given as goal

abbrev pub invariant-loop-entry : goal.invariant-loop-entry
invariant-loop-entry l = Before l.stored l.rows l.entry
