-- By the first sample's label. Assumes nothing.
use mathlib.Core.Path.{sym, ◌∙◌}
use Rattle.labelling.proofs.Labels.{plus_handed, minus_handed, opposed_minus, opposed_plus, opposed_none}
use Rattle.labelling.proofs.label.opposite.Goals as goal

pub returns-then-is_minus : goal.returns-then-is_minus
returns-then-is_minus c =
    let f = c.ranges in
    let is = c.is_minus.ensures ∙ minus_handed _ _ f.a.sfits in
    c.is_plus.ensures ∙ plus_handed _ _ f.b.sfits ∙ sym (opposed_minus _ _ (sym is ∙ c.if-is_minus.true))

pub returns-then-is_plus : goal.returns-then-is_plus
returns-then-is_plus c =
    let f = c.ranges in
    let is = c.is_plus-2.ensures ∙ plus_handed _ _ f.a.sfits in
    c.is_minus-then-is_plus.ensures ∙ minus_handed _ _ f.b.sfits ∙ sym (opposed_plus _ _ (sym is ∙ c.if-is_plus.true))

pub returns : goal.returns
returns c =
    let small = c.ranges.a.sfits in
    let minus = c.is_minus.ensures ∙ minus_handed _ _ small in
    let plus = c.is_plus-2.ensures ∙ plus_handed _ _ small in
    sym (opposed_none _ _ (sym minus ∙ c.if-is_minus.false) (sym plus ∙ c.if-is_plus.false))
