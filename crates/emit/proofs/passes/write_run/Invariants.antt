-- Cubes, one after the other along x. Assumes nothing.
use Rattle.basics.proofs.Written.{Written}
use Rattle.emit.specs.inner.Moving.{moved_label}
use Rattle.emit.specs.inner.Passes.{placed_ids}
use Prim.Native.Nat.{◌≤◌}
use Rattle.emit.proofs.passes.write_run.Given as goal

abbrev pub invariant-loop-x : goal.invariant-loop-x
invariant-loop-x l = (l.x ≤ l.count) × Written (placed_ids (moved_label l.moved) l.first) l.initial.rows l.at l.x l.rows l.to
