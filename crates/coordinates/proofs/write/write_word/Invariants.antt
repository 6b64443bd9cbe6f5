-- The loop's invariant: the nodes of the bits before j that are set are written. Assumes nothing.
use Prim.Native.Nat.{◌≤◌}
use Rattle.basics.proofs.Written.{Written}
use Rattle.bitmap.specs.inner.Bits.{bit}
use Rattle.coordinates.specs.inner.Marked.{node_if}
use Rattle.coordinates.proofs.write.write_word.Given as goal

abbrev pub invariant-loop-j : goal.invariant-loop-j
invariant-loop-j l = Written (node_if l.s l.cuts l.state (bit l.word) l.lo) l.initial.nodes l.at l.j l.nodes l.to × (l.j ≤ 64)
