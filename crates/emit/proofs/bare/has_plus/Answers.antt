-- The samples of the line and some after it, all at once. Assumes nothing.
use native.Mathlib.Omega.{arith}
use Rattle.lattice.proofs.Bounds.{points_small}
use Rattle.emit.proofs.BareLaws.{light_line}
use Rattle.emit.proofs.bare.has_plus.Goals as goal

pub has_some-requires : goal.has_some-requires
has_some-requires c = omega (arith, points_small _ c.args.scan.lattice.sized, c.args.scan.sampled)

pub returns : goal.returns
returns c = λ e. light_line _ c.args.scan.samples.now _ _ (λ p l u. c.has_some.ensures e p l (omega arith))
