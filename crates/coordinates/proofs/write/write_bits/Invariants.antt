-- The loop's invariant: the nodes of the marked ids of the words before w are written. Assumes nothing.
use Prim.Native.Nat.{◌*◌, ◌≤◌}
use lib.ListN.{length}
use Rattle.basics.specs.Lists.{gather, below}
use Rattle.basics.specs.inner.Writing.{Wrote}
use Rattle.bitmap.specs.inner.Bits.{marked}
use Rattle.coordinates.specs.inner.Marked.{node_if}
use Rattle.coordinates.proofs.write.write_bits.Given as goal

abbrev pub invariant-loop-w : goal.invariant-loop-w
invariant-loop-w l =
    Wrote (gather (node_if l.s l.cuts l.state (marked l.bits) l.lo) (below (64 * l.w))) l.initial.nodes l.at l.nodes l.to × (l.w ≤ length l.bits)
