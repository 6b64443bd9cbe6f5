-- By the far end, if there is one. Assumes nothing.
use native.Mathlib.Omega.{arith}
use mathlib.Core.Path.{sym, ap, ◌∙◌}
use Rattle.lattice.proofs.Edge.{neighbour_lt}
use Rattle.lines.proofs.Sites.{site_lt, site_near}
use Rattle.warp.specs.inner.Quick.{open_along}
use Rattle.warp.proofs.moves.is_live_by.Goals as goal

pub is_live-requires : goal.is_live-requires
is_live-requires c =
    let l = c.args.lattice in
    let q = c.args.q in
    let code = c.args.code in
    let here = site_lt l.sizes q l.sized c.requires.sited in
    let leads = site_near l.sizes q l.sized c.requires.sited code.code ∙ sym c.neighbour.ensures ∙ c.in-Some.is in
    let there = neighbour_lt l.sizes q.own code.code c.in-Some.far here code.names_edge leads in
    (omega (arith, c.requires.state_len), omega (arith, c.requires.state_len))

pub returns-in-None : goal.returns-in-None
unfolding open_along
returns-in-None c =
    let l = c.args.lattice in
    let leads = site_near l.sizes c.args.q l.sized c.requires.sited c.args.code.code ∙ sym c.neighbour.ensures ∙ c.in-None.is in
    sym (ap (open_along _ _) leads)

pub returns-in-Some : goal.returns-in-Some
unfolding open_along
returns-in-Some c =
    let l = c.args.lattice in
    let leads = site_near l.sizes c.args.q l.sized c.requires.sited c.args.code.code ∙ sym c.neighbour.ensures ∙ c.in-Some.is in
    c.is_live.ensures ∙ sym (ap (open_along _ _) leads)
