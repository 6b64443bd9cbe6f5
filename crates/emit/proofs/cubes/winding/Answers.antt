-- The sign of a signed triple product, computed for each edge of the turn. Assumes nothing.
use Rattle.emit.proofs.CubeLaws.{last_edge}
use Rattle.stencil.specs.inner.Sign.{winds}
use Rattle.geometry.specs.Volume.{six_volume, triple, dot, cross}
use mathlib.Core.Path.{ap, ◌∙◌}
use native.Mathlib.Omega.{arith}
use Rattle.emit.proofs.cubes.winding.Goals as goal

pub returns-in-0 : goal.returns-in-0
unfolding six_volume triple dot cross
returns-in-0 c = rw c.in-0.is c.winds_with.ensures

pub returns-in-1 : goal.returns-in-1
unfolding six_volume triple dot cross
returns-in-1 c = rw c.in-1.is c.winds_with-in-1.ensures

pub returns-in-2 : goal.returns-in-2
unfolding six_volume triple dot cross
returns-in-2 c = rw c.in-2.is c.winds_with-in-2.ensures

pub returns-in_default : goal.returns-in_default
unfolding six_volume triple dot cross
returns-in_default c =
    c.winds_with-in_default.ensures ∙ ap winds (last_edge c.args.e (omega arith) (omega arith) (omega arith))
