-- The lines of document 01's table: each row may be written, and so may those after it. Assumes nothing.
use native.Mathlib.Omega.{arith}
use borrow.Author.Tests.{le-leb}
use Rattle.basics.specs.Lists.{gather}
use Rattle.basics.proofs.Written.{nothing}
use Rattle.stencil.specs.Stencil.{stencil_of}
use Rattle.rows.specs.inner.Corners.{point_id, cut_id, corner_id, point_at, cut_at}
use Rattle.rows.specs.inner.Stencils.{row_count, stencil_ids, lines_by}
use Rattle.rows.proofs.StencilLaws.{count_one, all_left, turned_long, after_row, last_written, then_written}
use Rattle.rows.proofs.stencils.write_stencil.Goals as goal

pub write_row-requires-clause-room : goal.write_row-requires-clause-room
unfolding stencil_of row_count
write_row-requires-clause-room c =
    let room = rw c.in-6.is at c.requires.room in
    omega arith

pub write_row-requires-in-7-clause-room : goal.write_row-requires-in-7-clause-room
unfolding stencil_of row_count
write_row-requires-in-7-clause-room c =
    let room = rw c.in-7.is at c.requires.room in
    omega arith

pub write_row-requires-in-8-clause-room : goal.write_row-requires-in-8-clause-room
unfolding stencil_of row_count
write_row-requires-in-8-clause-room c =
    let room = rw c.in-8.is at c.requires.room in
    omega arith

pub write_row-to-requires-clause-room : goal.write_row-to-requires-clause-room
unfolding stencil_of row_count
write_row-to-requires-clause-room c =
    let room = rw c.in-11.is at c.requires.room in
    omega arith

pub write_row-requires-in-11-clause-room : goal.write_row-requires-in-11-clause-room
unfolding stencil_of row_count
write_row-requires-in-11-clause-room c =
    let room = rw c.in-11.is at c.requires.room in
    omega (arith, after_row (turned_long _ _) c.write_row-to.ensures)

pub write_row-to-requires-in-12-clause-room : goal.write_row-to-requires-in-12-clause-room
unfolding stencil_of row_count
write_row-to-requires-in-12-clause-room c =
    let room = rw c.in-12.is at c.requires.room in
    omega arith

pub write_row-to-requires-in-12-2-clause-room : goal.write_row-to-requires-in-12-2-clause-room
unfolding stencil_of row_count
write_row-to-requires-in-12-2-clause-room c =
    let room = rw c.in-12.is at c.requires.room in
    omega (arith, after_row (turned_long _ _) c.write_row-to-in-12.ensures)

pub write_row-requires-in-12-clause-room : goal.write_row-requires-in-12-clause-room
unfolding stencil_of row_count
write_row-requires-in-12-clause-room c =
    let room = rw c.in-12.is at c.requires.room in
    omega (arith, after_row (turned_long _ _) c.write_row-to-in-12.ensures, after_row (turned_long _ _) c.write_row-to-in-12-2.ensures)

pub write_row-to-requires-in-16-clause-room : goal.write_row-to-requires-in-16-clause-room
unfolding stencil_of row_count
write_row-to-requires-in-16-clause-room c =
    let room = rw c.in-16.is at c.requires.room in
    omega arith

pub write_row-to-requires-in-16-2-clause-room : goal.write_row-to-requires-in-16-2-clause-room
unfolding stencil_of row_count
write_row-to-requires-in-16-2-clause-room c =
    let room = rw c.in-16.is at c.requires.room in
    omega (arith, after_row (turned_long _ _) c.write_row-to-in-16.ensures)

pub write_row-requires-in-16-clause-room : goal.write_row-requires-in-16-clause-room
unfolding stencil_of row_count
write_row-requires-in-16-clause-room c =
    let room = rw c.in-16.is at c.requires.room in
    omega (arith, after_row (turned_long _ _) c.write_row-to-in-16.ensures, after_row (turned_long _ _) c.write_row-to-in-16-2.ensures)

pub write_row-requires-in_default-clause-room : goal.write_row-requires-in_default-clause-room
write_row-requires-in_default-clause-room c =
    let one = count_one c.args.pattern (omega arith) (omega arith) (omega arith) (omega arith) in
    omega (arith, one, c.requires.room)

pub returns-in-6 : goal.returns-in-6
unfolding stencil_of stencil_ids gather lines_by point_id cut_id corner_id point_at cut_at
returns-in-6 c =
    let first = rw (c.point-p1.ensures.corner, c.cut.ensures.corner, c.point.ensures.corner, c.point-in-6.ensures.corner) at c.write_row.ensures in
    rw c.in-6.is (last_written first)

pub returns-in-7 : goal.returns-in-7
unfolding stencil_of stencil_ids gather lines_by point_id cut_id corner_id point_at cut_at
returns-in-7 c =
    let first = rw (c.point-p1.ensures.corner, c.cut-in-7.ensures.corner, c.cut-in-7-2.ensures.corner, c.point-in-7.ensures.corner) at c.write_row-in-7.ensures in
    rw c.in-7.is (last_written first)

pub returns-in-8 : goal.returns-in-8
unfolding stencil_of stencil_ids gather lines_by point_id cut_id corner_id point_at cut_at
returns-in-8 c =
    let first = rw (c.point-p1.ensures.corner, c.cut-in-8.ensures.corner, c.cut-in-8-2.ensures.corner, c.cut-in-8-3.ensures.corner) at c.write_row-in-8.ensures in
    rw c.in-8.is (last_written first)

pub returns-in-11 : goal.returns-in-11
unfolding stencil_of stencil_ids gather lines_by point_id cut_id corner_id point_at cut_at
returns-in-11 c =
    let first = rw (c.point-p1.ensures.corner, c.point-in-11.ensures.corner, c.cut-in-11-2.ensures.corner, c.point-in-11-2.ensures.corner) at c.write_row-to.ensures in
    let second = rw (c.point-p1.ensures.corner, c.cut-in-11.ensures.corner, c.cut-in-11-2.ensures.corner, c.point-in-11-2.ensures.corner) at c.write_row-in-11.ensures in
    rw c.in-11.is (then_written first (last_written second))

pub returns-in-12 : goal.returns-in-12
unfolding stencil_of stencil_ids gather lines_by point_id cut_id corner_id point_at cut_at
returns-in-12 c =
    let first = rw (c.point-p1.ensures.corner, c.point-p2.ensures.corner, c.cut-in-12-3.ensures.corner, c.cut-in-12-4.ensures.corner) at c.write_row-to-in-12.ensures in
    let second = rw (c.point-p1.ensures.corner, c.cut-in-12.ensures.corner, c.cut-in-12-2.ensures.corner, c.cut-in-12-4.ensures.corner) at c.write_row-to-in-12-2.ensures in
    let third = rw (c.point-p1.ensures.corner, c.cut-in-12.ensures.corner, c.cut-in-12-3.ensures.corner, c.cut-in-12-4.ensures.corner) at c.write_row-in-12.ensures in
    rw c.in-12.is (then_written first (then_written second (last_written third)))

pub returns-in-16 : goal.returns-in-16
unfolding stencil_of stencil_ids gather lines_by point_id cut_id corner_id point_at cut_at
returns-in-16 c =
    let first = rw (c.point-p1.ensures.corner, c.point-in-16.ensures.corner, c.point-in-16-2.ensures.corner, c.cut-in-16-3.ensures.corner) at c.write_row-to-in-16.ensures in
    let second = rw (c.point-p1.ensures.corner, c.point-in-16.ensures.corner, c.cut-in-16-2.ensures.corner, c.cut-in-16-3.ensures.corner) at c.write_row-to-in-16-2.ensures in
    let third = rw (c.point-p1.ensures.corner, c.cut-in-16.ensures.corner, c.cut-in-16-2.ensures.corner, c.cut-in-16-3.ensures.corner) at c.write_row-in-16.ensures in
    rw c.in-16.is (then_written first (then_written second (last_written third)))

pub returns-in-0-to-4 : goal.returns-in-0-to-4
unfolding stencil_of stencil_ids gather lines_by point_id cut_id corner_id point_at cut_at
returns-in-0-to-4 c = nothing _ _ (simp (le-leb c.args.pattern 4 (omega arith)))

pub returns-in_default : goal.returns-in_default
unfolding stencil_ids gather lines_by point_id corner_id point_at
returns-in_default c =
    let row = rw (c.point-p1.ensures.corner, c.point-in_default.ensures.corner, c.point-in_default-2.ensures.corner, c.point-in_default-3.ensures.corner) at c.write_row-in_default.ensures in
    rw (all_left c.args.pattern (omega arith) (omega arith) (omega arith) (omega arith) (omega arith) (omega arith) (omega arith)) (last_written row)
