-- Those of a word of 64 bits. Assumes nothing.
use Rattle.bitmap.proofs.Words.{ones_whole}
use Rattle.bitmap.proofs.ones.Goals as goal

pub returns : goal.returns
returns c = ones_whole c.args.word 64 c.ranges.word.fits
