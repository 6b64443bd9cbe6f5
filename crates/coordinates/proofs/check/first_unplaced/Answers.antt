-- The loop's invariant: the entries before the index have places. Assumes nothing.
use Rattle.coordinates.proofs.Checking.{before_more, placed_here, first_here, first_nowhere}
use Rattle.coordinates.proofs.check.first_unplaced.Goals as goal

pub returns-in-Err : goal.returns-in-Err
returns-in-Err c = first_here c.loop-entry.invariant c.loop-entry-test.true c.in-Err.ensures.answer

pub loop-entry-preserved : goal.loop-entry-preserved
loop-entry-preserved c = before_more c.loop-entry.invariant (placed_here c.args.stored _ c.in_default.field-0 c.in_default.ensures.answer)

pub returns : goal.returns
returns c = first_nowhere c.loop-entry.invariant c.loop-entry-test.false
