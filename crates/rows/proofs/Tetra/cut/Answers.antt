-- The table of the code holds the start and the direction of every cut of every kind of tetrahedron: one computed test. Assumes nothing.
use mathlib.Core.Path.{refl}
use Rattle.rows.specs.inner.Cuts.{cuts}
use Rattle.rows.proofs.CornerLaws.{read}
use Rattle.rows.proofs.Tetra.cut.Goals as goal

pub bounds-self-packed : goal.bounds-self-packed
unfolding cuts
bounds-self-packed c =
    let r = read c.args.self c.args.u c.args.v c.requires.tetrahedral.0 c.requires.tetrahedral.1 c.requires.u_bound.0 c.requires.u_bound.1 refl in
    r.start_lt

pub returns : goal.returns
unfolding cuts
returns c =
    let r = read c.args.self c.args.u c.args.v c.requires.tetrahedral.0 c.requires.tetrahedral.1 c.requires.u_bound.0 c.requires.u_bound.1 refl in
    record { corner = r.cut_is; known = λ k. (r.number_lt k, r.way_lt) }
