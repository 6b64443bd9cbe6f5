-- Lines, one after the other. Assumes nothing.
use Rattle.basics.proofs.Written.{Written}
use Rattle.emit.specs.inner.Moving.{moved_label}
use Rattle.emit.specs.inner.Passes.{line_ids}
use Prim.Native.Nat.{◌≤◌}
use Rattle.emit.proofs.passes.write_layer.Given as goal

abbrev pub invariant-loop-y : goal.invariant-loop-y
invariant-loop-y l =
    (l.y ≤ l.p.cubes.ny)
    × Written (line_ids l.moved.scan.lattice.sizes l.p (moved_label l.moved) l.z) l.initial.rows l.at l.y l.rows l.to
