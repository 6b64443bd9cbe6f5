-- The loop's invariant: the bits of the words gone over are counted. Assumes nothing.
use mathlib.Core.Path.{refl}
use Rattle.basics.specs.Lists.{count}
use Rattle.bitmap.proofs.Loops.{counted_more, counted_fits}
use Rattle.bitmap.proofs.Bits.count.Goals as goal

pub loop-word-init : goal.loop-word-init
unfolding count
loop-word-init g c = refl

pub overflow_add-set : goal.overflow_add-set
overflow_add-set g c =
    record { fits = counted_fits _ _ g.row.N c.loop-word.invariant c.ones-set.ensures c.loop-word-test.true c.requires }

pub loop-word-preserved : goal.loop-word-preserved
loop-word-preserved g c = counted_more _ _ c.loop-word.invariant c.ones-set.ensures
