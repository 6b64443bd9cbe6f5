-- The loop's invariant: from the first point on, no byte before those of the point of index x is at fault. Assumes nothing.
use Prim.Native.Nat.{◌+◌, ◌*◌, ◌-◌, ◌≤◌}
use Rattle.lattice.specs.Axis.{along_x}
use Rattle.lattice.specs.Counts.{grid}
use Rattle.moving.specs.Label.{labels}
use Rattle.filling.specs.Check.{cut_fault}
use Rattle.checks.specs.inner.Search.{Throughout}
use Rattle.checks.proofs.Walk.{Room}
use Rattle.checks.proofs.cuts.part_search.Given as goal

abbrev pub invariant-loop-x : goal.invariant-loop-x
invariant-loop-x l =
    Room l.s l.own (grid l.s l.q.kind along_x) × (l.from ≤ l.x) × (l.x ≤ l.to)
    × Throughout (cut_fault l.s (labels l.band l.samples) l.cuts) 0 (7 * (l.own + l.from)) (7 * (l.own + l.x))

abbrev pub decreases-loop-x : goal.decreases-loop-x
decreases-loop-x l = l.to - l.x
