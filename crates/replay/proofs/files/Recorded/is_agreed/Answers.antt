-- The answer, the samples, the cut bytes. Assumes nothing.
use Prim.Native.Nat.{◌+◌, ◌*◌}
use native.Mathlib.Omega.{arith}
use mathlib.Core.Path.{◌≡◌, ap, ap₂, ◌∙◌}
use Rattle.basics.proofs.Test.{first_fails, second_fails, all_three}
use Rattle.blockfile.specs.Format.{Read}
use Rattle.comparison.specs.program.Same.{same}
use Rattle.replay.specs.program.Files.{stated_read, same_read, reread}
use Rattle.replay.proofs.Reading.{agreement_is, samples_are}
use Rattle.replay.proofs.Composed.{part_is}
use Rattle.replay.proofs.files.Recorded.is_agreed.Goals.{After-is_stated}
use Rattle.replay.proofs.files.Recorded.is_agreed.Goals as goal

answered : (c : After-is_stated)
    → c.is_stated.result
    ≡ same_read (reread c.args.self.head.now c.args.self.body.now c.args.self.filed c.args.samples.now).answer (stated_read c.args.self.head.now)
answered c =
    c.is_stated.ensures ∙ ap (λ (r : Read). same_read r (stated_read c.args.self.head.now)) c.read_again-answer.ensures.value

pub returns-then-not-is_stated : goal.returns-then-not-is_stated
returns-then-not-is_stated c =
    first_fails (agreement_is _ _ _ _) (answered (goal.at.returns-then-not-is_stated c).After-is_stated) c.if-not-is_stated.true

pub returns-then-not-same_samples : goal.returns-then-not-same_samples
returns-then-not-same_samples c =
    second_fails (agreement_is _ _ _ _)
    (answered (goal.at.returns-then-not-same_samples c).After-is_stated) c.if-not-is_stated.false
    (samples_are _ _ _ _ c.same_samples.ensures c.read_again-answer.ensures.samples_after (omega arith))
    c.if-not-same_samples.true

pub returns : goal.returns
returns c =
    let f = c.args.self.filed in
    all_three (agreement_is _ _ _ _)
    (answered (goal.at.returns c).After-is_stated) c.if-not-is_stated.false
    (samples_are _ _ _ _ c.same_samples.ensures c.read_again-answer.ensures.samples_after (omega arith))
    c.if-not-same_samples.false
    (c.eq.ensures ∙ ap₂ same c.read_again-answer.ensures.cuts_after (part_is c.args.self.body.now (f.file + 2 * f.samples) f.cuts))
