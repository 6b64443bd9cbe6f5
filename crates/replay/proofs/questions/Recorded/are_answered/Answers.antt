-- After i answers as stated the rest decides. Assumes nothing.
use native.Mathlib.Omega.{arith}
use mathlib.Core.Path.{◌∙◌}
use Rattle.replay.specs.program.Questions.{places_agree_with}
use Rattle.replay.proofs.Asking.{all_left, right_answer, wrong_answer, none_left}
use Rattle.replay.proofs.questions.Recorded.are_answered.Goals as goal

pub loop-i-init : goal.loop-i-init
unfolding places_agree_with
loop-i-init c = all_left _ _ _ _ _ _ _

pub returns-then-not-is_answered : goal.returns-then-not-is_answered
returns-then-not-is_answered c =
    wrong_answer _ _ _ _ _ _ _ c.loop-i.i (omega arith) c.is_answered.ensures c.if-not-is_answered.true ∙ c.loop-i.invariant

pub loop-i-preserved : goal.loop-i-preserved
loop-i-preserved c =
    right_answer _ _ _ _ _ _ _ c.loop-i.i (omega arith) c.is_answered.ensures c.if-not-is_answered.false ∙ c.loop-i.invariant

pub returns : goal.returns
returns c = none_left _ _ _ _ _ _ _ c.loop-i.i (omega arith) ∙ c.loop-i.invariant
