-- The loop's invariant: the nodes of the bits before j that are set are written. Assumes nothing.
use native.Mathlib.Omega.{arith}
use mathlib.Core.Path.{sym, ◌∙◌}
use Rattle.basics.proofs.Written.{none_written}
use Rattle.coordinates.proofs.Writing.{written_as, bit_written, bit_passed, bit_room}
use Rattle.coordinates.proofs.write.write_word.Goals.{else-is_set, then-is_set}
use Rattle.coordinates.proofs.write.write_word.Goals as goal

pub loop-j-init : goal.loop-j-init
loop-j-init c = (none_written _ _ _, omega arith)

pub write_node-to-requires : goal.write_node-to-requires
write_node-to-requires c =
    let set = sym c.is_set.ensures ∙ c.if-is_set.true in
    record { at_in_bounds = bit_room _ _ _ _ _ c.loop-j.invariant.0 64 c.loop-j-test.true set c.requires.word_in_bounds; id_bound = omega arith }

pub loop-j-preserved : goal.loop-j-preserved
loop-j-preserved c =
    let i = c.loop-j.invariant.0 in
    let asked = sym c.is_set.ensures in (
      elim c.if-is_set.branch [
        | then-is_set w ↦ written_as (bit_written _ _ _ _ _ i (asked ∙ w.if-is_set.true) w.write_node-to.ensures) w.nodes-is w.to-is
        | else-is_set w ↦ written_as (bit_passed _ _ _ _ _ i (asked ∙ w.if-is_set.false)) w.nodes-is w.to-is
      ],
      omega (arith, c.loop-j-test.true),
    )
