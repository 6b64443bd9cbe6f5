-- The next line, or the end of all points. Assumes nothing.
use native.Mathlib.Omega.{arith}
use Rattle.lattice.proofs.Bounds.{points_small}
use Rattle.lines.proofs.Lines.{line_fits}
use Rattle.lines.proofs.walk.after.Goals as goal

pub overflow_add-q : goal.overflow_add-q
overflow_add-q c =
    omega (arith, line_fits c.requires c.args.lattice.sized, points_small c.args.lattice.sizes c.args.lattice.sized)

pub returns-else-q-line_length : goal.returns-else-q-line_length
returns-else-q-line_length c = omega (arith, line_fits c.requires c.args.lattice.sized)
