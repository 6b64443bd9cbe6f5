-- The loop's invariant: the bytes of the points before the one of index `from` are mended. Assumes nothing.
use Prim.Native.Nat.{◌+◌, ◌*◌}
use native.Mathlib.Omega.{arith}
use mathlib.Core.Path.{refl}
use Rattle.labelling.specs.inner.Scans.{label_in}
use Rattle.checks.proofs.Walk.{room}
use Rattle.patch.specs.inner.Mends.{Mends, due_in}
use Rattle.patch.proofs.Mends.{spelt, joined, few}
use Rattle.patch.proofs.Line.{fine_to}
use Rattle.patch.proofs.table.mend_points.Goals as goal

pub add_assign-requires : goal.add_assign-requires
add_assign-requires c =
    let r = room c.args.scan.lattice.sized c.requires.line refl in
    let i = c.loop-x.invariant in
    let f = c.in-Some.ensures in
    let a = few i.1 in
    let b = few c.mend_point.ensures in
    (omega (arith, r.fits, r.small, f.0), omega (arith, r.fits, r.small, f.0))

pub loop-x-preserved : goal.loop-x-preserved
loop-x-preserved c =
    let i = c.loop-x.invariant in
    let f = c.in-Some.ensures in
    let a = c.args.scan in
    let fine = fine_to a.lattice.sizes (label_in a) a.samples.now _ c.args.q _ _ f.1 in
    let before : Mends (due_in a) (7 * c.args.q.own) (7 * (c.args.q.own + c.in-Some.x)) c.args.cuts.now c.loop-x.cuts c.loop-x.total
    = joined i.1 fine (omega arith) (omega (arith, f.1.low)) (omega arith) (omega arith) in (
      omega (arith, f.0),
      spelt refl (omega arith) (joined before c.mend_point.ensures (omega arith) (omega arith)
          c.add_assign.ensures.after.0 c.add_assign.ensures.after.1),
    )

pub returns : goal.returns
returns c =
    let i = c.loop-x.invariant in
    let a = c.args.scan in
    let fine = fine_to a.lattice.sizes (label_in a) a.samples.now _ c.args.q _ _ c.in_default.ensures in
    joined i.1 fine (omega arith) (omega (arith, i.0)) (omega arith) (omega arith)
