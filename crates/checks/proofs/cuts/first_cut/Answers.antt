-- The loop's invariant: no byte before those of the next line is at fault. Assumes nothing.
use native.Mathlib.Omega.{arith}
use Rattle.std.proofs.lemmas.Result.{err_from_is_err_and}
use Rattle.lines.proofs.Lines.{line_own, line_self, line_fits}
use Rattle.checks.proofs.Search.{joined, upto, within}
use Rattle.checks.proofs.Faults.{wide, answer_fine, answer_wrong}
use Rattle.checks.proofs.cuts.first_cut.Goals as goal

pub line_fault-requires : goal.line_fault-requires
line_fault-requires c =
    let i = c.loop-q.invariant in
    line_self (c.in-Some.ensures.steps _ i.0 i.1).0

pub returns-in_err-line_fault : goal.returns-in_err-line_fault
returns-in_err-line_fault c =
    let i = c.loop-q.invariant in
    let l = (c.in-Some.ensures.steps _ i.0 i.1).0 in
    let p = err_from_is_err_and c.from_residual.result c.from_residual.ensures.1 in
    rw (p.1, p.2)
    (answer_wrong _ _ _
    (wide (upto (omega (arith, line_own l)) i.2) (omega arith) (omega (arith, line_own l, line_fits l c.args.table.scan.lattice.sized)) c.in_err-line_fault.ensures))

pub loop-q-preserved : goal.loop-q-preserved
loop-q-preserved c =
    let i = c.loop-q.invariant in
    let w = c.in-Some.ensures.steps _ i.0 i.1 in
    (_, w.1, joined i.2 (within (omega (arith, line_own w.0)) (omega (arith, line_own w.0)) c.in_ok-line_fault.ensures))

pub returns : goal.returns
returns c =
    let i = c.loop-q.invariant in
    let e = c.in-None.ensures.steps _ i.0 i.1 in
    answer_fine _ _ _ (omega arith) i.2
