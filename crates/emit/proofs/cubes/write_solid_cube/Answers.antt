-- Four rows, one after the other, or counted into an empty table. Assumes nothing.
use Rattle.basics.proofs.Written.{none_written, more_written, kept_long, all_written}
use Rattle.rows.proofs.StencilLaws.{solid_long}
use Rattle.emit.proofs.CubeLaws.{edge_known, solid_edge, solid_cube_long}
use Rattle.emit.proofs.Room.{room_left, only_counted}
use native.Mathlib.Omega.{arith}
use mathlib.Core.Path.{sym, ◌∙◌}
use lib.ListN.{length}
use borrow.Author.Tests.{eqb-true, eqb-false}
use Rattle.emit.proofs.cubes.write_solid_cube.Goals as goal

pub returns-then-is_empty : goal.returns-then-is_empty
returns-then-is_empty c =
    let none = eqb-true (length c.args.rows.now) 0 (sym c.is_empty.ensures ∙ c.if-is_empty.true) in
    only_counted none (omega (arith, solid_cube_long c.args.c))

pub loop-e-init : goal.loop-e-init
loop-e-init c = (omega arith, none_written _ _ _)

pub write_solid-to-requires : goal.write_solid-to-requires
write_solid-to-requires c =
    let i = c.loop-e in
    let same-long = kept_long i.invariant.1 in
    let some = eqb-false (length c.args.rows.now) 0 (sym c.is_empty.ensures ∙ c.if-is_empty.false) in
    let room = room_left i.invariant.1 4 (solid_edge c.args.c i.e c.winding.ensures c.quarter.ensures) c.loop-e-test.true c.requires.room in
    let long = solid_long c.winding.result c.quarter.result in
    record {
      known_tetra = edge_known c.args.c i.e c.quarter.ensures c.requires.known_cube;
      at_in_bounds = omega (arith, long, same-long, room.fits (omega (arith, some, same-long)));
    }

pub loop-e-preserved : goal.loop-e-preserved
loop-e-preserved c =
    let edge = solid_edge c.args.c c.loop-e.e c.winding.ensures c.quarter.ensures in
    (omega arith, more_written c.loop-e.invariant.1 edge c.write_solid-to.ensures)

pub returns : goal.returns
returns c = all_written c.loop-e.invariant.1 4 (omega arith) (omega arith)
