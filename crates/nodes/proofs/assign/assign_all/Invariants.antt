-- The loop's invariant: the windows before w are done, and w is marked. Assumes nothing.
use Prim.Native.Nat.{◌-◌}
use Rattle.nodes.specs.inner.Rounds.{Assigned}
use Rattle.nodes.proofs.assign.assign_all.Given as goal

abbrev pub invariant-loop-hit : goal.invariant-loop-hit
invariant-loop-hit l =
    Assigned l.stored l.initial.rows l.w.0 l.first l.at l.rows l.initial.nodes l.nodes l.bits.words

abbrev pub decreases-loop-hit : goal.decreases-loop-hit
decreases-loop-hit l = 9 - l.w.0
