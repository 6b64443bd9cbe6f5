-- The loop's invariant: no byte before d is at fault. Assumes nothing.
use Rattle.checks.specs.inner.Search.{Throughout}
use Rattle.checks.specs.inner.Faults.{seven_fault}
use Rattle.checks.proofs.seven.point_fault.Given as goal

abbrev pub invariant-loop-d : goal.invariant-loop-d
invariant-loop-d l = Throughout (seven_fault l.crosses-items l.bytes) 0 0 l.d
