-- One word written. Assumes nothing.
use Rattle.bitmap.proofs.Tables.{set_adds}
use Rattle.bitmap.proofs.mark.Goals as goal

pub returns : goal.returns
returns c = set_adds c.args.bits.now c.args.k c.requires
