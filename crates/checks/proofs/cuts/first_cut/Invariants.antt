-- The loop's invariant: no byte before those of the next line is at fault. Assumes nothing.
use Rattle.std.proofs.Common.{ℕ, ◌*◌}
use Rattle.labelling.specs.inner.Scans.{label_in}
use Rattle.filling.specs.Check.{cut_fault}
use Rattle.lines.specs.inner.Walk.{Walks}
use Rattle.checks.specs.inner.Search.{Throughout}
use Rattle.checks.proofs.cuts.first_cut.Given as goal

abbrev pub invariant-loop-q : goal.invariant-loop-q
invariant-loop-q l =
    (p : ℕ) × Walks l.table.scan.lattice.sizes p l.q-iterator
    × Throughout (cut_fault l.table.scan.lattice.sizes (label_in l.table.scan) l.table.cuts.now) 0 0 (7 * p)
