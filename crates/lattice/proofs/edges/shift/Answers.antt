-- A code is its direction, or that turned round. Assumes nothing.
use mathlib.Core.Path.{sym, ap, ◌∙◌}
use Rattle.lattice.specs.inner.Site.{shift_along, turned_shift}
use Rattle.lattice.proofs.Sites.{shift_start, shift_end}
use Rattle.lattice.proofs.edges.shift.Goals as goal

pub returns-then-is_start : goal.returns-then-is_start
returns-then-is_start c =
    c.direction-t.ensures ∙ ap shift_along c.direction.ensures.value
    ∙ sym (shift_start _ (sym c.is_start.ensures ∙ c.if-is_start.true))

pub returns : goal.returns
returns c =
    ap turned_shift (c.direction-t.ensures ∙ ap shift_along c.direction.ensures.value)
    ∙ sym (shift_end _ (sym c.is_start.ensures ∙ c.if-is_start.false))
