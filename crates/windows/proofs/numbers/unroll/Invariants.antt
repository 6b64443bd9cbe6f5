-- The loop's invariant: the entries below k are written, and the next number is that of k. Assumes nothing.
use Rattle.windows.proofs.Unrolling.{Unrolls}
use Rattle.windows.proofs.numbers.unroll.Given as goal

abbrev pub invariant-loop-k : goal.invariant-loop-k
invariant-loop-k l = Unrolls l.bits.words l.first l.numbers l.next l.k
