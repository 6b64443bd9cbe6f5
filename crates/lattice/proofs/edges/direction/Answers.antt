-- A line a direction. Assumes nothing.
use mathlib.Core.Path.{sym, ap, ◌∙◌}
use Rattle.lattice.specs.Direction.{directions, direction}
use Rattle.lattice.specs.inner.Site.{shift_along}
use Rattle.lattice.proofs.edges.direction.Goals as goal

pub returns-in-2 : goal.returns-in-2
unfolding shift_along direction directions
returns-in-2 c = c.shift_by-in-2.ensures ∙ sym (ap shift_along c.in-2.is)
