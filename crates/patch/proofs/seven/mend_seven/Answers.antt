-- The loop's invariant: the bytes before d are mended. Assumes nothing.
use native.Mathlib.Omega.{arith}
use Rattle.patch.proofs.Mends.{byte_mended, joined, few}
use Rattle.patch.proofs.seven.mend_seven.Goals as goal

pub add_assign-requires : goal.add_assign-requires
add_assign-requires c =
    let i = c.loop-d.invariant in
    let b = byte_mended i (omega (arith, i.long)) c.mend_byte.ensures.value c.mend_byte.ensures.counts in
    let f = few i in
    let g = few b in
    (omega arith, omega arith)

pub loop-d-preserved : goal.loop-d-preserved
loop-d-preserved c =
    let i = c.loop-d.invariant in
    let b = byte_mended i (omega (arith, i.long)) c.mend_byte.ensures.value c.mend_byte.ensures.counts in
    joined i b (omega arith) (omega arith) c.add_assign.ensures.after.0 c.add_assign.ensures.after.1
