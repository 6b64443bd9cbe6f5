-- The loop's invariant: the nodes of the marked ids of the words before w are written. Assumes nothing.
use native.Mathlib.Omega.{arith}
use Rattle.coordinates.proofs.Writing.{wrote_as, none_yet, word_written, word_passed, word_room, wrote_long}
use Rattle.coordinates.proofs.write.write_bits.Goals.{else-word-ne0, then-word-ne0}
use Rattle.coordinates.proofs.write.write_bits.Goals as goal

pub loop-w-init : goal.loop-w-init
loop-w-init c = (none_yet _ _ _, omega arith)

pub write_word-to-requires : goal.write_word-to-requires
write_word-to-requires c =
    let a = c.args in
    let l = c.loop-w-test.true in
    record {
      lo_bound = omega (arith, c.requires.bits_bound, l);
      word_in_bounds = word_room _ _ _ a.bits.now a.lo _ c.loop-w.invariant.0 _ l c.requires.bits_in_bounds;
    }

pub loop-w-smaller : goal.loop-w-smaller
loop-w-smaller c = omega (arith, c.loop-w-test.true)

pub loop-w-preserved : goal.loop-w-preserved
loop-w-preserved c =
    let a = c.args in
    let i = c.loop-w.invariant.0 in (
      elim c.if-word-ne0.branch [
        | then-word-ne0 w ↦ wrote_as (word_written _ _ _ a.bits.now a.lo _ i w.write_word-to.ensures) w.nodes-is w.to-is
        | else-word-ne0 w ↦ wrote_as (word_passed _ _ _ a.bits.now a.lo _ i w.if-word-ne0.false) w.nodes-is w.to-is
      ],
      omega (arith, c.loop-w-test.true),
    )

pub shape_of-nodes : goal.shape_of-nodes
shape_of-nodes c = wrote_long c.loop-w.invariant.0
