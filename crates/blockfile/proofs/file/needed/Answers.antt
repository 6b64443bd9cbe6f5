-- The sizes are refused, or the stages after them count. Assumes nothing.
use mathlib.Core.Path.{sym, ap, ◌∙◌}
use native.Mathlib.Omega.{arith}
use Rattle.lattice.proofs.Bounds.{points_small}
use Rattle.blockfile.specs.inner.Needs.{needs_after}
use Rattle.blockfile.proofs.Stages.{shut_needs, open_needs}
use Rattle.blockfile.proofs.file.needed.Goals as goal

pub needed_after-requires : goal.needed_after-requires
needed_after-requires c = omega (arith, points_small _ c.in-Ok.lattice.sized, c.point_count.ensures)

pub returns-in-Ok : goal.returns-in-Ok
returns-in-Ok c = c.needed_after.ensures ∙ ap (needs_after _) c.point_count.ensures ∙ sym (open_needs _ _ c.in-Ok.ensures)

pub returns-in-Err : goal.returns-in-Err
returns-in-Err c = shut_needs _ _ c.in-Err.ensures
