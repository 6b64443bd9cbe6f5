-- The loop's invariant: the ids of the bits before j that are set have places. Assumes nothing.
use Rattle.bitmap.specs.inner.Bits.{bit}
use Rattle.coordinates.specs.inner.Marked.{AllPlaced}
use Rattle.coordinates.proofs.check.word_placed.Given as goal

abbrev pub invariant-loop-j : goal.invariant-loop-j
invariant-loop-j l = AllPlaced l.stored (bit l.word) l.lo l.j
