-- The place call's refusals, then 13, then the point. Assumes nothing.
use mathlib.Core.Path.{sym, ap, ◌∙◌}
use Rattle.refusals.specs.inner.Numbers.{refusal_number}
use Rattle.metric.specs.declared.Metric.{Metric}
use Rattle.metric.specs.Millimetres.{unplaced_mm}
use Rattle.metric.proofs.Cases.{own_refusal, unit_refusal, in_steps}
use Rattle.scale.proofs.in_millimetres.Goals as goal

pub returns-then-p-ne0 : goal.returns-then-p-ne0
returns-then-p-ne0 c = c.refused.ensures ∙ own_refusal c.args.unit c.args.p c.if-p-ne0.true

pub returns-then-not-unit_fits : goal.returns-then-not-unit_fits
unfolding refusal_number
returns-then-not-unit_fits c =
    c.refused-then-not-unit_fits.ensures
    ∙ ap unplaced_mm c.number.ensures
    ∙ unit_refusal c.args.unit c.args.p c.if-p-ne0.false (sym c.unit_fits.ensures ∙ c.if-not-unit_fits.true)

pub returns : goal.returns
returns c =
    ap (λ (m : Metric). record { number = 0; point = m }) c.point.ensures
    ∙ in_steps c.args.unit c.args.p c.if-p-ne0.false (sym c.unit_fits.ensures ∙ c.if-not-unit_fits.false)
