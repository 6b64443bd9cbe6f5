-- By the second axis and then by the third. Assumes nothing.
use native.Mathlib.Omega.{arith}
use Rattle.lattice.proofs.Sites.{site_small}
use Rattle.lines.proofs.Points.{sited}
use Rattle.lines.proofs.Lines.{line_stands}
use Rattle.checks.proofs.rim.is_outer.Goals as goal

pub is_outermost-requires : goal.is_outermost-requires
is_outermost-requires c = omega (arith, site_small c.args.lattice.sizes c.args.q c.args.lattice.sized (sited (line_stands c.requires)))

pub is_outermost-requires-else-is_outermost : goal.is_outermost-requires-else-is_outermost
is_outermost-requires-else-is_outermost c =
    omega (arith, site_small c.args.lattice.sizes c.args.q c.args.lattice.sized (sited (line_stands c.requires)))
