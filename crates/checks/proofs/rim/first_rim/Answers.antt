-- The loop's invariant: no point before the next line is at fault. Assumes nothing.
use native.Mathlib.Omega.{arith}
use Rattle.lines.proofs.Lines.{line_own, line_self, line_fits}
use Rattle.checks.proofs.Search.{joined, upto, within, first_lowest, none_lowest}
use Rattle.checks.proofs.rim.first_rim.Goals as goal

pub line_rim-requires : goal.line_rim-requires
line_rim-requires c =
    let i = c.loop-q.invariant in
    line_self (c.in-Some.ensures.steps _ i.0 i.1).0

pub returns-in-Some-line_rim-clause-lowest : goal.returns-in-Some-line_rim-clause-lowest
returns-in-Some-line_rim-clause-lowest c =
    let i = c.loop-q.invariant in
    let l = (c.in-Some.ensures.steps _ i.0 i.1).0 in
    first_lowest (upto (omega (arith, line_own l)) i.2) c.in-Some-line_rim.ensures (omega (arith, line_own l, line_fits l c.args.scan.lattice.sized))

pub returns-in-Some-line_rim-clause-below : goal.returns-in-Some-line_rim-clause-below
returns-in-Some-line_rim-clause-below c =
    let i = c.loop-q.invariant in
    let l = (c.in-Some.ensures.steps _ i.0 i.1).0 in
    omega (arith, c.in-Some-line_rim.ensures.high, line_own l, line_fits l c.args.scan.lattice.sized)

pub loop-q-preserved : goal.loop-q-preserved
loop-q-preserved c =
    let i = c.loop-q.invariant in
    let w = c.in-Some.ensures.steps _ i.0 i.1 in
    (_, w.1, joined i.2 (within (omega (arith, line_own w.0)) (omega (arith, line_own w.0)) c.in_default.ensures))

pub returns-clause-lowest : goal.returns-clause-lowest
returns-clause-lowest c =
    let i = c.loop-q.invariant in
    let e = c.in-None.ensures.steps _ i.0 i.1 in
    none_lowest i.2 (omega arith)
