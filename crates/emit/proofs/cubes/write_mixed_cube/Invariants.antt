-- What is written so far is what the edges so far give. Assumes nothing.
use Rattle.basics.proofs.Written.{Written}
use Rattle.emit.specs.inner.Cubes.{edge_ids}
use Prim.Native.Nat.{◌≤◌}
use Rattle.emit.proofs.cubes.write_mixed_cube.Given as goal

abbrev pub invariant-loop-e : goal.invariant-loop-e
invariant-loop-e l = (l.e ≤ 4) × Written (edge_ids l.c l.labels) l.initial.rows l.at l.e l.rows l.to
