-- A sample is above the band where its label is plus: both are cast to one type. Assumes nothing.
use Rattle.labelling.proofs.Labels.{plus_test}
use Rattle.labelling.proofs.label.is_plus.Goals as goal

pub returns : goal.returns
returns c = plus_test _ _ c.ranges.band.fits c.ranges.a
