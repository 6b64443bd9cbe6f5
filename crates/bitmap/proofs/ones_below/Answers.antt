-- The mask of the lower bits, and their count. Assumes nothing.
use Rattle.bitmap.proofs.Words.{ones_masked}
use Rattle.bitmap.proofs.ones_below.Goals as goal

pub returns : goal.returns
returns c = ones_masked c.args.word c.args.j c.requires
