-- The loop's invariant: the bytes before those of the next line are mended. Assumes nothing.
use Rattle.std.proofs.Common.{ℕ, ◌*◌}
use Rattle.lines.specs.inner.Walk.{Walks}
use Rattle.patch.specs.inner.Mends.{Mends, due_in}
use Rattle.patch.proofs.table.mend_table.Given as goal

abbrev pub invariant-loop-q : goal.invariant-loop-q
invariant-loop-q l =
    (p : ℕ) × Walks l.scan.lattice.sizes p l.q-iterator × Mends (due_in l.scan) 0 (7 * p) l.initial.cuts l.cuts l.total
