-- Five of the numbers, and which they are. Assumes nothing.
use mathlib.Core.Path.{refl}
use Rattle.checks.proofs.Glance.{covers}
use Rattle.checks.proofs.quiet.range_starts.Goals as goal

pub returns : goal.returns
returns c = covers _ _ c.args.lattice.sized c.requires c.ahead-far.ensures refl refl refl refl refl
