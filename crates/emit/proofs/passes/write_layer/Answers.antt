-- Lines, one after the other. Assumes nothing.
use Rattle.basics.proofs.Written.{none_written, more_written, index_most, all_written}
use Rattle.emit.proofs.PassLaws.{line_most_law}
use Rattle.emit.proofs.Room.{room_left}
use Rattle.emit.specs.inner.Moving.{moved_label}
use Rattle.emit.specs.inner.Passes.{layer_ids, line_most}
use mathlib.Core.Path.{refl}
use native.Mathlib.Omega.{arith}
use Rattle.emit.proofs.passes.write_layer.Goals as goal

pub loop-y-init : goal.loop-y-init
loop-y-init c = (omega arith, none_written _ _ _)

pub write_line-to-requires : goal.write_line-to-requires
unfolding layer_ids
write_line-to-requires c =
    let i = c.loop-y.invariant in
    let h = c.loop-y-test.true in
    let most = line_most_law _ c.args.p (moved_label c.args.moved) c.requires.in_pass _ c.requires.z_lt_mz in
    record {
      in_pass = c.requires.in_pass;
      y_lt_my = (h, c.requires.z_lt_mz);
      line_most_bound = omega (arith, index_most i.1 line_most _ most i.0, c.requires.in_pass.y_few, c.requires.layer_most_bound);
      room = room_left i.1 _ refl h c.requires.room;
    }

pub loop-y-preserved : goal.loop-y-preserved
loop-y-preserved c =
    (omega arith, more_written c.loop-y.invariant.1 refl c.write_line-to.ensures)

pub returns : goal.returns
unfolding layer_ids
returns c = all_written c.loop-y.invariant.1 _ (omega arith) (omega arith)
