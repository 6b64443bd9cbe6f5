-- Refusals 5 to 7, and acceptance where no check finds a fault. Assumes nothing.
use native.Mathlib.Omega.{arith}
use Rattle.stuffing.proofs.Checked.{at_rim, at_cut, passed}
use Rattle.stuffing.proofs.check.check.Goals as goal

pub returns-in-Some : goal.returns-in-Some
returns-in-Some c = at_rim c.in_ok-table.ensures c.in-Some.ensures.lowest c.in-Some.ensures.below

pub returns-in-Ok : goal.returns-in-Ok
returns-in-Ok c =
    let taken = c.in_ok-table.ensures in
    (taken, passed taken (omega (arith, c.in_default.ensures.lowest)) c.in-Ok.ensures)

pub returns-in-Err : goal.returns-in-Err
returns-in-Err c =
    at_cut c.in_ok-table.ensures (omega (arith, c.in_default.ensures.lowest)) c.in-Err.fault c.in-Err.ensures
    c.refusal.result c.refusal.ensures.number c.refusal.ensures.place
