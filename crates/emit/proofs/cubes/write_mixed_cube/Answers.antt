-- Into an empty table rows are only counted. Else four tetrahedra, one after the other. Assumes nothing.
use Rattle.basics.proofs.Written.{same_ids, none_written, more_written, fits_left, all_written}
use Rattle.emit.proofs.CubeLaws.{edge_is, edge_known, cube_as, cube_room, cube_counted}
use Rattle.emit.proofs.Room.{only_counted}
use Rattle.emit.specs.inner.Moving.{moved_label}
use native.Mathlib.Omega.{arith}
use mathlib.Core.Path.{sym, ◌∙◌}
use lib.ListN.{length}
use borrow.Author.Tests.{eqb-true, eqb-false}
use Rattle.emit.proofs.cubes.write_mixed_cube.Goals as goal

pub returns-then-is_empty : goal.returns-then-is_empty
returns-then-is_empty c =
    let none = eqb-true (length c.args.rows.now) 0 (sym c.is_empty.ensures ∙ c.if-is_empty.true) in
    let long = cube_counted c.args.c c.labels-labels.result in
    same_ids (cube_as (moved_label c.args.moved) c.args.c _ c.labels-labels.ensures)
    (only_counted none (omega (arith, c.count_cube.ensures.value, long)))

pub loop-e-init : goal.loop-e-init
loop-e-init c = (omega arith, none_written _ _ _)

pub write_tetra-to-requires : goal.write_tetra-to-requires
write_tetra-to-requires c =
    let i = c.loop-e in
    let room = cube_room (moved_label c.args.moved) c.args.c _ _ _ c.labels-labels.ensures c.requires.room in
    let some = eqb-false (length c.args.rows.now) 0 (sym c.is_empty.ensures ∙ c.if-is_empty.false) in
    let edge = edge_is c.args.c c.labels-labels.result i.e c.winding.ensures c.quarter.ensures c.quarter_labels.ensures in
    record {
      known_tetra = edge_known c.args.c i.e c.quarter.ensures c.requires.known_cube;
      w_in_bounds = fits_left i.invariant.1 4 edge c.loop-e-test.true (room.fits (omega (arith, some)));
    }

pub loop-e-preserved : goal.loop-e-preserved
loop-e-preserved c =
    let edge = edge_is c.args.c c.labels-labels.result c.loop-e.e c.winding.ensures c.quarter.ensures c.quarter_labels.ensures in
    (omega arith, more_written c.loop-e.invariant.1 edge c.write_tetra-to.ensures)

pub returns : goal.returns
returns c =
    same_ids (cube_as (moved_label c.args.moved) c.args.c _ c.labels-labels.ensures) (all_written c.loop-e.invariant.1 4 (omega arith) (omega arith))
