-- The loop's invariant: the marked ids of the words before w have places. Assumes nothing.
use native.Mathlib.Omega.{arith}
use mathlib.Core.Path.{sym}
use mathlib.Core.Bool.{true}
use Rattle.basics.proofs.Test.{false_F}
use Rattle.coordinates.proofs.Checking.{placed_none, word_placed, word_empty, word_faulty}
use Rattle.coordinates.proofs.check.bits_placed.Goals.{else-word-ne0-via-then-word-ne0+else-not-word_placed, else-word-ne0-via-else-word-ne0}
use Rattle.coordinates.proofs.check.bits_placed.Goals as goal

pub loop-w-init : goal.loop-w-init
loop-w-init c = placed_none _ _

pub word_placed-requires : goal.word_placed-requires
word_placed-requires c =
    omega (arith, c.requires, c.loop-w-test.true)

pub returns-then-not-word_placed : goal.returns-then-not-word_placed
returns-then-not-word_placed c =
    let a = c.args in
    let none = c.word_placed.ensures.unplaced (c.if-not-word_placed.true) in
    record {
      all_placed = (λ r. absurd (false_F true (sym r) tt));
      unplaced = (λ r. word_faulty a.bits.now a.lo _ _ (omega (arith, c.loop-w-test.true)) none);
    }

pub loop-w-preserved : goal.loop-w-preserved
loop-w-preserved c =
    let a = c.args in
    elim c.else-word-ne0.branch [
      | else-word-ne0-via-then-word-ne0+else-not-word_placed w ↦
          word_placed a.bits.now a.lo _ c.loop-w.invariant (w.word_placed.ensures.all_placed w.if-not-word_placed.false)
      | else-word-ne0-via-else-word-ne0 w ↦ word_empty a.bits.now a.lo _ c.loop-w.invariant w.if-word-ne0.false
    ]
