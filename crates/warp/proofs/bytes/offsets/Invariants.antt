-- The loop's invariant: the offsets of the first directions are written. Assumes nothing.
use Prim.Native.Nat.{◌-◌}
use Rattle.warp.proofs.Offsets.{Written}
use Rattle.warp.proofs.bytes.offsets.Given as goal

abbrev pub invariant-loop-d : goal.invariant-loop-d
invariant-loop-d l = Written l.first l.back l.at l.d

abbrev pub decreases-loop-d : goal.decreases-loop-d
decreases-loop-d l = 7 - l.d
