-- A glance, or point by point. Assumes nothing.
use native.Mathlib.Omega.{arith}
use Rattle.labelling.specs.inner.Scans.{label_in}
use Rattle.patch.proofs.Mends.{no_counts, fine_part}
use Rattle.patch.proofs.Line.{line_fine}
use Rattle.patch.proofs.table.mend_line.Goals as goal

pub returns-then-is_quiet_line : goal.returns-then-is_quiet_line
returns-then-is_quiet_line c =
    let a = c.args.scan in
    let fine = line_fine a.lattice.sizes (label_in a) a.samples.now c.args.cuts.now c.args.q (c.is_quiet_line.ensures c.if-is_quiet_line.true) in
    fine_part (omega arith) fine (no_counts c.default.ensures)
