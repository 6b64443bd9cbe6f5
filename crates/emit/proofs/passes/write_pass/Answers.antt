-- Layers, one after the other. Assumes nothing.
use Rattle.basics.proofs.Written.{none_written, more_written, index_most, all_written}
use Rattle.emit.proofs.PassLaws.{layer_most_law}
use Rattle.emit.proofs.Room.{room_left}
use Rattle.emit.specs.inner.Moving.{moved_label}
use Rattle.emit.specs.inner.Passes.{pass_ids, layer_most}
use mathlib.Core.Path.{refl}
use native.Mathlib.Omega.{arith}
use Rattle.emit.proofs.passes.write_pass.Goals as goal

pub loop-z-init : goal.loop-z-init
loop-z-init c = (omega arith, none_written _ _ _)

pub write_layer-to-requires : goal.write_layer-to-requires
unfolding pass_ids
write_layer-to-requires c =
    let i = c.loop-z.invariant in
    let h = c.loop-z-test.true in
    let most = layer_most_law _ c.args.p (moved_label c.args.moved) c.requires.in_pass in
    record {
      in_pass = c.requires.in_pass;
      z_lt_mz = h;
      layer_most_bound = omega (arith, index_most i.1 layer_most _ most i.0, c.requires.in_pass.z_few, c.requires.pass_most_bound);
      room = room_left i.1 _ refl h c.requires.room;
    }

pub loop-z-preserved : goal.loop-z-preserved
loop-z-preserved c =
    (omega arith, more_written c.loop-z.invariant.1 refl c.write_layer-to.ensures)

pub returns : goal.returns
unfolding pass_ids
returns c = all_written c.loop-z.invariant.1 _ (omega arith) (omega arith)
