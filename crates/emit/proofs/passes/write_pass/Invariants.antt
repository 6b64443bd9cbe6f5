-- Layers, one after the other. Assumes nothing.
use Rattle.basics.proofs.Written.{Written}
use Rattle.emit.specs.inner.Moving.{moved_label}
use Rattle.emit.specs.inner.Passes.{layer_ids}
use Prim.Native.Nat.{◌≤◌}
use Rattle.emit.proofs.passes.write_pass.Given as goal

abbrev pub invariant-loop-z : goal.invariant-loop-z
invariant-loop-z l =
    (l.z ≤ l.p.cubes.nz)
    × Written (layer_ids l.moved.scan.lattice.sizes l.p (moved_label l.moved)) l.initial.rows l.at l.z l.rows l.to
