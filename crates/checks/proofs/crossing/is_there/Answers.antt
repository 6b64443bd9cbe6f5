-- Asked for on the rim only. Assumes nothing.
use mathlib.Core.Path.{sym, ap, ◌∙◌}
use mathlib.Core.Bool.{not}
use Rattle.checks.proofs.Edges.{inner_there}
use Rattle.checks.proofs.crossing.is_there.Goals as goal

pub returns-then-not-outer : goal.returns-then-not-outer
returns-then-not-outer c =
    let a = c.args in
    ap not c.if-not-outer.true ∙ inner_there _ _ a.lattice.sized c.requires.sited _ c.requires.d_bound (sym c.requires.outer_value ∙ c.if-not-outer.true)
