-- The points counted so far. Assumes nothing.
use Prim.Native.Nat.{◌≤◌}
use mathlib.Core.Path.{◌≡◌}
use Rattle.labelling.specs.inner.Scans.{label_in}
use Rattle.emit.specs.inner.Cubes.{plus_at}
use Rattle.emit.proofs.CubeLaws.{total_to}
use Rattle.emit.proofs.Moved.count_plus.Given as goal

abbrev pub invariant-loop-p : goal.invariant-loop-p
invariant-loop-p l =
    (l.plus ≡ total_to (plus_at (label_in l.self.scan)) l.fn.c l.p-index) × (l.plus ≤ l.p-index)
