-- The loop's invariant: the entries below k are written, and the next number is that of k. Assumes nothing.
use native.Mathlib.Omega.{arith}
use Rattle.windows.proofs.Unrolling.{unrolls_none, unrolls_fits, unrolls_more}
use Rattle.windows.proofs.numbers.unroll.Goals as goal

pub loop-k-init : goal.loop-k-init
loop-k-init c = unrolls_none c.args.bits.now.words c.args.first c.args.numbers.now (omega arith)

pub overflow_add-next : goal.overflow_add-next
overflow_add-next c =
    let i = c.loop-k.invariant in
    record { fits = unrolls_fits i c.from-next.ensures c.is_marked.ensures c.loop-k-test.true c.requires }

pub loop-k-preserved : goal.loop-k-preserved
loop-k-preserved c = unrolls_more c.loop-k.invariant c.from-next.ensures c.is_marked.ensures c.loop-k-test.true
