-- The loop's invariant: the bytes of the points before the one of index `from` are mended. Assumes nothing.
use Prim.Native.Nat.{◌+◌, ◌*◌, ◌-◌, ◌≤◌}
use Rattle.lattice.specs.Axis.{along_x}
use Rattle.lattice.specs.Counts.{grid}
use Rattle.patch.specs.inner.Mends.{Mends, due_in}
use Rattle.patch.proofs.table.mend_points.Given as goal

abbrev pub invariant-loop-x : goal.invariant-loop-x
invariant-loop-x l =
    (l.from ≤ grid l.scan.lattice.sizes l.q.kind along_x)
    × Mends (due_in l.scan) (7 * l.q.own) (7 * (l.q.own + l.from)) l.initial.cuts l.cuts l.total

abbrev pub decreases-loop-x : goal.decreases-loop-x
decreases-loop-x l = grid l.scan.lattice.sizes l.q.kind along_x - l.from
