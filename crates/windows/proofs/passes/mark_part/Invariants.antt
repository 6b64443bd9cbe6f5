-- The loop's invariant: the ids of the entries below the index are marked. Assumes nothing.
use Prim.Native.Nat.{◌*◌}
use Rattle.windows.specs.inner.Windows.{window}
use Rattle.windows.proofs.Marking.{MarksTo}
use Rattle.windows.proofs.passes.mark_part.Given as goal

abbrev pub invariant-loop-id : goal.invariant-loop-id
invariant-loop-id l = MarksTo (window * l.w.index) l.rows l.initial.bits.words l.bits.words l.id-index
