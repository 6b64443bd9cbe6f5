-- The first line begins at 0. Assumes nothing.
use mathlib.Core.Path.{refl}
use Rattle.lines.proofs.Points.{points_some}
use Rattle.lines.proofs.Lines.{line_first}
use Rattle.lines.proofs.walk.Lines.of.Goals as goal

pub locate-requires : goal.locate-requires
locate-requires c = points_some c.args.lattice.sizes c.args.lattice.sized

pub returns : goal.returns
returns c = record { same = refl; comes = line_first c.args.lattice.sized c.locate.ensures }
