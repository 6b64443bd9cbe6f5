-- A number below the count of corners is a corner's, any other a centre's. Assumes nothing.
use native.Mathlib.Omega.{arith}
use Prim.Native.Nat.{◌-◌}
use mathlib.Core.Path.{sym, ◌∙◌}
use Rattle.lattice.specs.Counts.{points}
use Rattle.lattice.specs.Point.{cell}
use Rattle.lattice.proofs.Sites.{corner_small, centre_small, site_low, site_high}
use Rattle.lattice.proofs.Lattice.locate.Goals as goal

pub site_at-requires : goal.site_at-requires
site_at-requires c = corner_small c.args.self.sizes c.args.self.sized c.args.p (omega arith)

pub returns-then-p-first : goal.returns-then-p-first
unfolding cell
returns-then-p-first c = c.site_at.ensures ∙ sym (site_low _ _ (omega arith))

pub site_at-requires-2 : goal.site_at-requires-2
unfolding points
site_at-requires-2 c =
    centre_small c.args.self.sizes c.args.self.sized (c.args.p - c.corner_count-first.result) (omega arith)

pub returns : goal.returns
unfolding cell
returns c = c.site_at-2.ensures ∙ sym (site_high _ _ _ c.corner_count-first.ensures (omega arith))
