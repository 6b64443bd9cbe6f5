-- The loop's invariant: from the first point on, no byte before those of the point of index x is at fault. Assumes nothing.
use Prim.Native.Nat.{min, ◌+◌, ◌*◌, ◌≤◌}
use mathlib.Core.Path.{◌≡◌}
use Rattle.lattice.specs.Axis.{along_x}
use Rattle.lattice.specs.Counts.{grid}
use Rattle.labelling.specs.inner.Scans.{label_in}
use Rattle.filling.specs.Check.{cut_fault}
use Rattle.checks.specs.inner.Search.{Throughout}
use Rattle.checks.proofs.cuts.line_search.Given as goal

abbrev pub invariant-loop-x : goal.invariant-loop-x
invariant-loop-x l =
    (l.from ≤ l.x) × (l.m ≡ grid l.table.scan.lattice.sizes l.q.kind along_x) × (l.m ≤ 65)
    × Throughout (cut_fault l.table.scan.lattice.sizes (label_in l.table.scan) l.table.cuts.now) 0 (7 * (l.q.own + l.from)) (7 * (l.q.own + min l.m l.x))
