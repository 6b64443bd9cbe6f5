-- The two points are compared where the edge exists. Assumes nothing.
use mathlib.Core.Path.{sym, ◌∙◌}
use Rattle.labelling.specs.inner.Scans.{label_in}
use Rattle.lines.proofs.Sites.{site_lt}
use Rattle.checks.proofs.Edges.{edge_in, edge_crosses, no_edge_crosses}
use Rattle.checks.proofs.crossing.crosses.Goals as goal

pub are_opposed-requires : goal.are_opposed-requires
are_opposed-requires c =
    let r = c.requires in
    let h = c.args.scan.lattice.sized in
    (site_lt _ _ h r.sited, edge_in _ _ h r.sited _ r.d_bound r.far_value (sym c.is_there.ensures ∙ c.if-is_there.true))

pub returns-then-is_there : goal.returns-then-is_there
returns-then-is_there c =
    let r = c.requires in
    c.are_opposed.ensures
    ∙ edge_crosses _ _ c.args.scan.lattice.sized r.sited _ r.d_bound r.far_value (label_in c.args.scan) (sym c.is_there.ensures ∙ c.if-is_there.true)

pub returns-else-is_there : goal.returns-else-is_there
returns-else-is_there c =
    let r = c.requires in
    c.if-is_there.false
    ∙ no_edge_crosses _ _ c.args.scan.lattice.sized r.sited _ r.d_bound r.far_value (label_in c.args.scan) (sym c.is_there.ensures ∙ c.if-is_there.false)
