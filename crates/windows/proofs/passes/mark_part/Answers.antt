-- The loop's invariant: the ids of the entries below the index are marked. Assumes nothing.
use mathlib.Core.Path.{ap}
use Rattle.bitmap.specs.declared.Bits.{Bits}
use Rattle.windows.proofs.Marking.{marks_none, marks_in, marks_out}
use Rattle.windows.proofs.passes.mark_part.Goals as goal
use Rattle.windows.proofs.passes.mark_part.Goals.{in-Some, in_default}

pub loop-id-init : goal.loop-id-init
loop-id-init c = marks_none _ _ _

pub loop-id-preserved : goal.loop-id-preserved
loop-id-preserved c =
    let i = c.loop-id.invariant in
    let l = c.loop-id-test.true in
    elim c.match-place.branch [
      | in-Some w ↦ marks_in i l w.in-Some.ensures.1 w.mark.ensures (ap (λ (b : Bits 8192). b.words) w.bits-is)
      | in_default w ↦ marks_out i l w.in_default.ensures (ap (λ (b : Bits 8192). b.words) w.bits-is)
    ]
