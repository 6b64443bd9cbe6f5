-- After i answers as stated the rest decides. Assumes nothing.
use Prim.Native.Nat.{◌+◌}
use mathlib.Core.Path.{◌≡◌}
use lib.ListN.{take, drop}
use Rattle.blockfile.specs.Format.{file_sizes}
use Rattle.replay.specs.program.Questions.{places_agree_with}
use Rattle.replay.proofs.Asking.{answers_left}
use Rattle.replay.proofs.questions.Recorded.are_answered.Given as goal

abbrev pub invariant-loop-i : goal.invariant-loop-i
invariant-loop-i l =
    answers_left l.self.body.now l.self.asked.number (file_sizes l.self.body.now) (take l.self.asked.cuts (drop 3 l.self.body.now))
    (take l.self.asked.state (drop (3 + l.self.asked.cuts) l.self.body.now)) l.first l.self.asked.questions l.i
    ≡ places_agree_with l.self.body.now l.self.asked
