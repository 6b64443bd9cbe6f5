-- One test a sign. Assumes nothing.
use mathlib.Core.Path.{sym, ap, ◌∙◌}
use mathlib.Core.Bool.{Bool}
use Rattle.labelling.specs.inner.Labels.{has_label}
use Rattle.labelling.proofs.Labels.{plus_handed, minus_handed}
use Rattle.labelling.proofs.label.has_label.Goals as goal

pub returns-then-plus : goal.returns-then-plus
unfolding has_label
returns-then-plus c =
    let a = c.args in
    c.is_plus.ensures ∙ plus_handed _ _ c.ranges.a.sfits ∙ ap (λ (p : Bool). has_label p a.band a.a) (sym c.if-plus.true)

pub returns : goal.returns
unfolding has_label
returns c =
    let a = c.args in
    c.is_minus.ensures ∙ minus_handed _ _ c.ranges.a.sfits ∙ ap (λ (p : Bool). has_label p a.band a.a) (sym c.if-plus.false)
