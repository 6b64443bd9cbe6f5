-- Four edges, one by one. Assumes nothing.
use Prim.Native.Nat.{ℕ}
use mathlib.Core.Path.{refl, ap, ◌∙◌}
use native.Mathlib.Omega.{arith}
use Rattle.stencil.specs.Stencil.{stencil_of}
use Rattle.rows.specs.inner.Stencils.{row_count}
use Rattle.emit.proofs.CubeLaws.{counted_to, count_more, counted_all, edge_counted}
use Rattle.emit.proofs.cubes.count_cube.Goals as goal

pub loop-e-init : goal.loop-e-init
unfolding counted_to
loop-e-init c = (refl, omega arith)

pub loop-e-preserved : goal.loop-e-preserved
loop-e-preserved c =
    let more = count_more c.args.labels c.loop-e.e c.loop-e-test.true in
    let rows = c.row_count-count.ensures.value ∙ ap (λ (k : ℕ). row_count (stencil_of k)) c.pattern.ensures in
    let count = edge_counted c.args.labels c.loop-e.e c.quarter_labels.ensures rows in
    (omega (arith, more, count, c.loop-e.invariant.0), omega (arith, c.row_count-count.ensures.upper_bound, c.loop-e.invariant.1))

pub returns-clause-value : goal.returns-clause-value
returns-clause-value c = c.loop-e.invariant.0 ∙ counted_all c.args.labels c.loop-e.e c.loop-e-test.false
