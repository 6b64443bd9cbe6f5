-- The loop's invariant: no point before the next line is at fault. Assumes nothing.
use Rattle.std.proofs.Common.{ℕ, false}
use Rattle.labelling.specs.inner.Scans.{label_in}
use Rattle.filling.specs.Check.{rim_fault}
use Rattle.lines.specs.inner.Walk.{Walks}
use Rattle.checks.specs.inner.Search.{Throughout}
use Rattle.checks.proofs.rim.first_rim.Given as goal

abbrev pub invariant-loop-q : goal.invariant-loop-q
invariant-loop-q l =
    (p : ℕ) × Walks l.scan.lattice.sizes p l.q-iterator × Throughout (rim_fault l.scan.lattice.sizes (label_in l.scan)) false 0 p
