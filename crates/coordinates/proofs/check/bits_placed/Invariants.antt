-- The loop's invariant: the marked ids of the words before w have places. Assumes nothing.
use Prim.Native.Nat.{◌*◌}
use Rattle.bitmap.specs.inner.Bits.{marked}
use Rattle.coordinates.specs.inner.Marked.{AllPlaced}
use Rattle.coordinates.proofs.check.bits_placed.Given as goal

abbrev pub invariant-loop-w : goal.invariant-loop-w
invariant-loop-w l = AllPlaced l.stored (marked l.bits) l.lo (64 * l.w)
