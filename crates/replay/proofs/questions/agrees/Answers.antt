-- The head, then the questions. Assumes nothing.
use mathlib.Core.Path.{refl}
use Rattle.replay.proofs.Asking.{no_questions, questions_decide}
use Rattle.replay.proofs.questions.agrees.Goals as goal

pub returns-in-None : goal.returns-in-None
returns-in-None c = no_questions _ _ _ refl c.in-None.ensures

pub returns-in-Some : goal.returns-in-Some
returns-in-Some c = questions_decide _ _ _ c.in-Some.ensures.0 c.in-Some.ensures.1 c.are_answered.ensures
