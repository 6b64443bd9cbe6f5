-- The loop's invariant: the bytes before those of the next line are mended. Assumes nothing.
use native.Mathlib.Omega.{arith}
use Rattle.lattice.proofs.Bounds.{points_small}
use Rattle.lines.proofs.Lines.{line_own, line_self, line_fits}
use Rattle.patch.proofs.Mends.{spelt, joined, few}
use Rattle.patch.proofs.table.mend_table.Goals as goal

pub mend_line-requires-clause-line : goal.mend_line-requires-clause-line
mend_line-requires-clause-line c =
    let i = c.loop-q.invariant in
    line_self (c.in-Some.ensures.steps _ i.0 i.1).0

pub add_assign-requires : goal.add_assign-requires
add_assign-requires c =
    let i = c.loop-q.invariant in
    let l = (c.in-Some.ensures.steps _ i.0 i.1).0 in
    let h = c.args.scan.lattice.sized in
    let a = few i.2 in
    let b = few c.mend_line.ensures in
    let f = line_fits l h in
    let g = points_small c.args.scan.lattice.sizes h in
    (omega (arith, line_own l), omega (arith, line_own l))

pub loop-q-preserved : goal.loop-q-preserved
loop-q-preserved c =
    let i = c.loop-q.invariant in
    let w = c.in-Some.ensures.steps _ i.0 i.1 in
    let e = line_own w.0 in (
      _,
      w.1,
      joined i.2 (spelt (omega arith) (omega arith) c.mend_line.ensures) (omega arith) (omega arith)
          c.add_assign.ensures.after.0 c.add_assign.ensures.after.1,
    )
