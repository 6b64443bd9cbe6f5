-- The loop's invariant: no byte before d is at fault. Assumes nothing.
use mathlib.Core.Logic.{inl, inr}
use Rattle.checks.proofs.Faults.{none_more}
use Rattle.checks.proofs.seven.point_fault.Goals.{else-crosses-via-then-crosses+else-bytes-d-eq0, else-crosses-via-else-crosses, else-not-crosses-via-then-not-crosses+else-bytes-d-ne0, else-not-crosses-via-else-not-crosses}
use Rattle.checks.proofs.seven.point_fault.Goals as goal

pub loop-d-preserved : goal.loop-d-preserved
loop-d-preserved c =
    none_more _ _ c.loop-d.invariant
    (elim c.else-crosses.branch [
      | else-crosses-via-then-crosses+else-bytes-d-eq0 w ↦ inl (w.if-crosses.true, w.if-bytes-d-eq0.false)
      | else-crosses-via-else-crosses w ↦ inr w.if-crosses.false
    ])
    (elim c.else-not-crosses.branch [
      | else-not-crosses-via-then-not-crosses+else-bytes-d-ne0 w ↦ inl (w.if-not-crosses.true, w.if-bytes-d-ne0.false)
      | else-not-crosses-via-else-not-crosses w ↦ inr w.if-not-crosses.false
    ])
