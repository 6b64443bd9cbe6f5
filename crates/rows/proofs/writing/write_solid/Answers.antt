-- The row of four plus corners. Assumes nothing.
use Rattle.basics.proofs.Written.{same_ids}
use Rattle.rows.specs.inner.Corners.{corner_id, point_at}
use Rattle.rows.proofs.StencilLaws.{solid_is}
use Rattle.rows.proofs.writing.write_solid.Goals as goal

pub returns : goal.returns
unfolding corner_id point_at
returns c =
    let row = rw (c.point.ensures.corner, c.point-2.ensures.corner, c.point-3.ensures.corner, c.point-4.ensures.corner) at c.write_row.ensures in
    same_ids (solid_is c.args.wound c.args.t) row
