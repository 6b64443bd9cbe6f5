-- The lent cut table, then the call. Assumes nothing.
use mathlib.Core.Path.{ap, ◌∙◌}
use Rattle.blockfile.specs.Format.{Outcome}
use Rattle.replay.proofs.Reading.{reread_is}
use Rattle.replay.proofs.files.Recorded.read_again.Goals as goal

pub returns : goal.returns
returns c =
    let given = c.args.self in
    let q = reread_is given.head.now given.body.now given.filed c.args.samples.now (c.fill.ensures.after (λ y e. e)) c.requires in record {
      value = c.read.ensures.value ∙ ap (λ (o : Outcome). o.answer) q;
      samples_after = c.read.ensures.samples_after ∙ ap (λ (o : Outcome). o.samples) q;
      cuts_after = c.read.ensures.cuts_after ∙ ap (λ (o : Outcome). o.cuts) q;
    }
