-- The rows of the edges so far. Assumes nothing.
use Prim.Native.Nat.{◌*◌, ◌≤◌}
use mathlib.Core.Path.{◌≡◌}
use Rattle.emit.proofs.CubeLaws.{counted_to}
use Rattle.emit.proofs.cubes.count_cube.Given as goal

abbrev pub invariant-loop-e : goal.invariant-loop-e
invariant-loop-e l = (l.count ≡ counted_to l.labels l.e) × (l.count ≤ 3 * l.e)
