-- The loop's invariant: the words below w are ranked, and the next number is that of w. Assumes nothing.
use native.Mathlib.Omega.{arith}
use Rattle.bitmap.proofs.Loops.{ranked_none, ranked_more, next_fits}
use Rattle.bitmap.proofs.rank.Goals as goal

pub loop-w-init : goal.loop-w-init
loop-w-init c = ranked_none c.args.bits.now c.args.first c.args.ranks.now c.requires.ranks_len

pub overflow_add-next : goal.overflow_add-next
overflow_add-next c = record { fits = next_fits c.loop-w.invariant (omega arith) c.ones-next.ensures c.requires.bits_bound }

pub loop-w-preserved : goal.loop-w-preserved
loop-w-preserved c = ranked_more c.loop-w.invariant (omega arith) c.ones-next.ensures
