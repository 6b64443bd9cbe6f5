-- The passes along the axes, one after the other. Assumes nothing.
use Rattle.basics.proofs.Written.{Written}
use Rattle.emit.specs.inner.Moving.{moved_label}
use Rattle.emit.proofs.PassLaws.{pass_at}
use Prim.Native.Nat.{◌≤◌}
use Rattle.emit.proofs.passes.write_all.Given as goal

abbrev pub invariant-loop-axis : goal.invariant-loop-axis
invariant-loop-axis l =
    (l.axis ≤ 3) × Written (pass_at l.moved.scan.lattice.sizes (moved_label l.moved)) l.initial.rows 0 l.axis l.rows l.to
