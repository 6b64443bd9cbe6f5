-- Four rows, one after the other. Assumes nothing.
use Rattle.basics.proofs.Written.{Written}
use Rattle.emit.specs.inner.Cubes.{edge_ids, solid_cube}
use Prim.Native.Nat.{◌≤◌}
use Rattle.emit.proofs.cubes.write_solid_cube.Given as goal

abbrev pub invariant-loop-e : goal.invariant-loop-e
invariant-loop-e l = (l.e ≤ 4) × Written (edge_ids l.c solid_cube) l.initial.rows l.at l.e l.rows l.to
