-- The loop's invariant: the bits of the words gone over are counted. Assumes nothing.
use Prim.Native.Nat.{◌*◌}
use mathlib.Core.Path.{◌≡◌}
use Rattle.basics.specs.Lists.{count}
use Rattle.bitmap.specs.inner.Bits.{marked}
use Rattle.bitmap.proofs.Bits.count.Given as goal

abbrev pub invariant-loop-word : goal.invariant-loop-word
invariant-loop-word g l = l.set ≡ count (marked l.self.words) (64 * l.word-index)
