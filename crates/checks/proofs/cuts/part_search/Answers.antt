-- The loop's invariant: from the first point on, no byte before those of the point of index x is at fault. Assumes nothing.
use native.Mathlib.Omega.{arith}
use mathlib.Core.Path.{refl}
use Rattle.lines.proofs.Sites.{along_own}
use Rattle.checks.proofs.Search.{none_yet, joined, upto}
use Rattle.checks.proofs.Faults.{wide, raise_fine, raise_wrong, seven_is}
use Rattle.checks.proofs.Walk.{room, line_small, line_point}
use Rattle.checks.proofs.cuts.part_search.Goals as goal

pub loop-x-init : goal.loop-x-init
loop-x-init c =
    (room c.args.table.scan.lattice.sized c.requires.line refl, omega arith, c.requires.from_le_to.0, none_yet (omega arith))

pub along-requires : goal.along-requires
along-requires c =
    line_small c.args.table.scan.lattice.sized c.requires.line (omega (arith, c.requires.from_le_to.1))

pub site_fault-requires-clause-sited : goal.site_fault-requires-clause-sited
site_fault-requires-clause-sited c =
    line_point c.args.table.scan.lattice.sized c.requires.line refl (omega (arith, c.requires.from_le_to.1)) c.along.ensures

pub returns-in-Err : goal.returns-in-Err
returns-in-Err c =
    let e = c.requires.from_le_to.1 in
    let same = seven_is _ _ _ (along_own c.requires.line (omega arith) c.along.ensures) in
    rw (c.further.ensures.number, c.further.ensures.offset) (wide c.loop-x.invariant.3 (omega arith) (omega arith) (raise_wrong same c.in-Err.ensures))

pub loop-x-preserved : goal.loop-x-preserved
loop-x-preserved c =
    let e = c.requires.from_le_to.1 in
    let same = seven_is _ _ _ (along_own c.requires.line (omega arith) c.along.ensures) in
    let w = raise_fine same c.in_default.ensures in
    (c.loop-x.invariant.0, omega arith, omega arith, joined c.loop-x.invariant.3 (upto (omega arith) w))
