-- A line is a run from its first cube on. Assumes nothing.
use Rattle.basics.proofs.Written.{nothing, same_ids}
use Rattle.lattice.proofs.Bounds.{corners_small}
use Rattle.emit.proofs.PassLaws.{no_line, first_known, line_known, line_is, line_room}
use Rattle.emit.specs.inner.Moving.{moved_label}
use native.Mathlib.Omega.{arith}
use Rattle.emit.proofs.passes.write_line.Goals as goal

pub returns-then-p-eq0 : goal.returns-then-p-eq0
returns-then-p-eq0 c = nothing _ _ (no_line c.args.moved.scan.lattice.sizes c.args.p (moved_label c.args.moved) c.args.z c.args.y c.if-p-eq0.true)

pub overflow_add-centre : goal.overflow_add-centre
overflow_add-centre c =
    omega (arith, corners_small _ c.args.moved.scan.lattice.sized, c.corner_count.ensures, c.linear.ensures.upper_bound)

pub from_corner-first-requires : goal.from_corner-first-requires
from_corner-first-requires c =
    first_known c.args.moved.scan.lattice.sizes c.args.p c.args.z c.args.y c.linear-corner.ensures.value c.corner_count.ensures c.linear.ensures.value
    c.requires.in_pass c.requires.y_lt_my.1 c.requires.y_lt_my.0 (omega (arith, c.if-p-eq0.false))

pub write_run-requires-clause-known_run : goal.write_run-requires-clause-known_run
write_run-requires-clause-known_run c =
    line_known c.args.moved.scan.lattice.sizes c.args.p c.args.z c.args.y c.linear-corner.ensures.value c.corner_count.ensures c.linear.ensures.value
    c.from_corner-first.ensures c.requires.in_pass c.requires.y_lt_my.1 c.requires.y_lt_my.0

pub write_run-requires-clause-room : goal.write_run-requires-clause-room
write_run-requires-clause-room c =
    line_room c.args.moved.scan.lattice.sizes c.args.p c.args.z c.args.y c.linear-corner.ensures.value c.corner_count.ensures c.linear.ensures.value
    (moved_label c.args.moved) c.from_corner-first.ensures c.requires.room

pub returns : goal.returns
returns c =
    same_ids
    (line_is c.args.moved.scan.lattice.sizes c.args.p c.args.z c.args.y c.linear-corner.ensures.value c.corner_count.ensures c.linear.ensures.value
    (moved_label c.args.moved) c.from_corner-first.ensures)
    c.write_run.ensures
