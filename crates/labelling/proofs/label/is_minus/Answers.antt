-- A sample is below the band where its label is minus: both are cast to one type. Assumes nothing.
use Rattle.labelling.proofs.Labels.{minus_test}
use Rattle.labelling.proofs.label.is_minus.Goals as goal

pub returns : goal.returns
returns c = minus_test _ _ c.ranges.band.fits c.ranges.a
