-- A corner is a point of the block. Assumes nothing.
use mathlib.Core.Path.{sym, ap, ◌∙◌}
use Prim.Native.Nat.{ℕ}
use lib.ListN.{get_or}
use Rattle.rows.specs.declared.Corner.TheVariants.{Point}
use Rattle.rows.specs.inner.Corners.{vertex_at, point_at}
use Rattle.rows.proofs.CornerLaws.{rank_min}
use Rattle.rows.proofs.Tetra.point.Goals as goal

pub returns : goal.returns
unfolding point_at
returns c =
    let is = rank_min c.args.v ∙ sym c.min.ensures in
    record {
      corner = ap (λ (i : ℕ). Point (get_or c.args.self.corners i 0)) (sym is);
      known = λ k. rw is at (k.corner_in (vertex_at c.args.v));
    }
