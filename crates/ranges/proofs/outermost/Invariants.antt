-- The loop's invariant: by whatever band, a sample seen has the label only if the outermost one has. Assumes nothing.
use Rattle.ranges.proofs.Folds.{Without}
use Rattle.ranges.proofs.outermost.Given as goal

abbrev pub invariant-loop-x : goal.invariant-loop-x
invariant-loop-x l = Without l.plus l.samples l.x-index l.seen
