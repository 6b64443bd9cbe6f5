-- Four ids, one after the other. Assumes nothing.
use native.Mathlib.Omega.{arith}
use Rattle.rows.specs.inner.Corners.{row_ids}
use Rattle.rows.specs.inner.Stencils.{turned}
use Rattle.rows.proofs.StencilLaws.{four_stores, turned_long}
use Rattle.rows.proofs.stencils.write_row.Goals as goal
use Rattle.rows.proofs.stencils.write_row.Goals.{then-keep, else-keep}

pub returns : goal.returns
unfolding turned
returns c =
    let keep = c.args.keep in
    let long = turned_long keep (row_ids c.args.n c.args.row) in
    elim c.if-keep.branch [
      | then-keep w ↦
          record {
            now_is = rw (w.if-keep.true, w.last-is, c.id.ensures, c.id-2.ensures, c.id-3.ensures, c.id-4.ensures) (four_stores _ _ _ _ _ _);
            to_is = omega (arith, long);
          }
      | else-keep w ↦
          record {
            now_is = rw (w.if-keep.false, w.last-is, c.id.ensures, c.id-2.ensures, c.id-3.ensures, c.id-4.ensures) (four_stores _ _ _ _ _ _);
            to_is = omega (arith, long);
          }
    ]
