-- Six labels, each read once. Assumes nothing.
use Rattle.emit.specs.inner.Cubes.{cube_labels}
use Rattle.emit.proofs.Moved.labels.Goals as goal

pub returns : goal.returns
unfolding cube_labels
returns c = cc
