-- The passes along the axes, one after the other. Assumes nothing.
use Rattle.basics.proofs.Written.{same_ids, none_written, more_written, index_most, all_written}
use Rattle.emit.proofs.PassLaws.{pass_is, pass_at_most, in_pass, three_passes}
use Rattle.emit.proofs.Room.{room_left}
use Rattle.emit.specs.inner.Moving.{moved_label}
use Rattle.emit.specs.inner.Passes.{pass_most}
use native.Mathlib.Omega.{arith}
use Rattle.emit.proofs.passes.write_all.Goals as goal

pub loop-axis-init : goal.loop-axis-init
loop-axis-init c = (omega arith, none_written _ _ _)

pub write_pass-to-requires : goal.write_pass-to-requires
write_pass-to-requires c =
    let s = c.args.moved.scan.lattice.sizes in
    let label = moved_label c.args.moved in
    let i = c.loop-axis.invariant in
    let h = c.loop-axis-test.true in
    record {
      in_pass = in_pass s c.loop-axis.axis c.along.ensures c.args.moved.scan.lattice.sized;
      pass_most_bound = omega (arith, index_most i.1 pass_most 3 (λ j l. pass_at_most s label c.args.moved.scan.lattice.sized j) i.0);
      room = room_left i.1 3 (pass_is s label c.loop-axis.axis c.along.ensures) h (rw (three_passes s label) c.requires.room);
    }

pub loop-axis-preserved : goal.loop-axis-preserved
loop-axis-preserved c =
    let is = pass_is c.args.moved.scan.lattice.sizes (moved_label c.args.moved) c.loop-axis.axis c.along.ensures in
    (omega arith, more_written c.loop-axis.invariant.1 is c.write_pass-to.ensures)

pub returns : goal.returns
returns c =
    same_ids (three_passes c.args.moved.scan.lattice.sizes (moved_label c.args.moved))
    (all_written c.loop-axis.invariant.1 3 (omega arith) (omega arith))
