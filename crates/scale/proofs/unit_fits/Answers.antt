-- The literals are the ends of the range: a float constant is its bit pattern, which `of_bits` reads. Assumes nothing.
use mathlib.Core.Path.{◌∙◌}
use lib.Ieee.{of_bits}
use Rattle.metric.proofs.Cases.{fits_low, low_unfit}
use Rattle.scale.proofs.unit_fits.Goals as goal

pub returns-then-unit : goal.returns-then-unit
unfolding of_bits
returns-then-unit c = fits_low c.args.unit c.if-unit.true

pub returns-else-unit : goal.returns-else-unit
unfolding of_bits
returns-else-unit c = c.if-unit.false ∙ low_unfit c.args.unit c.if-unit.false
