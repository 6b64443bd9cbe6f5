-- The loop's invariant: the bytes before d are mended. Assumes nothing.
use Rattle.patch.specs.inner.Mends.{Mends, seven_due}
use Rattle.patch.proofs.seven.mend_seven.Given as goal

abbrev pub invariant-loop-d : goal.invariant-loop-d
invariant-loop-d l = Mends (seven_due l.samples l.own l.far-items) 0 l.d l.initial.bytes l.bytes l.total
