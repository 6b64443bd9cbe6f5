-- Zero where the state byte says so, and else what the sample is. Assumes nothing.
use mathlib.Core.Path.{sym, ap, ◌∙◌}
use native.Mathlib.Omega.{arith}
use Rattle.moving.specs.Label.{is_minus}
use Rattle.emit.proofs.LabelLaws.{handed_at, plus_label, minus_label, zero_label, faded, still}
use Rattle.emit.proofs.Moved.label.Goals as goal

pub returns-then-says_zero : goal.returns-then-says_zero
returns-then-says_zero c = faded _ _ _ (sym c.says_zero.ensures ∙ c.if-says_zero.true)

pub returns-then-is_plus : goal.returns-then-is_plus
returns-then-is_plus c =
    still _ _ _ (sym c.says_zero.ensures ∙ c.if-says_zero.false) (plus_label _ (sym c.is_plus.ensures ∙ c.if-is_plus.true))

pub returns-then-is_minus : goal.returns-then-is_minus
returns-then-is_minus c =
    let same = handed_at c.args.self.scan.band c.args.self.scan.samples.now c.args.p (omega arith) in
    still _ _ _ (sym c.says_zero.ensures ∙ c.if-says_zero.false)
    (minus_label _ (sym (c.is_minus.ensures ∙ ap is_minus same) ∙ c.if-is_minus.true))

pub returns : goal.returns
returns c =
    let same = handed_at c.args.self.scan.band c.args.self.scan.samples.now c.args.p (omega arith) in
    still _ _ _ (sym c.says_zero.ensures ∙ c.if-says_zero.false)
    (zero_label _ (sym c.is_plus.ensures ∙ c.if-is_plus.false) (sym (c.is_minus.ensures ∙ ap is_minus same) ∙ c.if-is_minus.false))
