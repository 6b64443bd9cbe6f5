-- Six points, one by one. Assumes nothing.
use Prim.Native.Nat.{ℕ}
use lib.ListN.{get_or}
use lib.Dec.{eqb}
use mathlib.Core.Path.{refl, ap, ◌∙◌}
use native.Mathlib.Omega.{arith}
use Rattle.emit.specs.inner.Cubes.{unmoved}
use Rattle.emit.proofs.CubeLaws.{total_to, total_more, total_all}
use Rattle.emit.proofs.Moved.is_unmoved.Goals as goal

pub loop-p-init : goal.loop-p-init
unfolding total_to
loop-p-init c = (refl, omega arith)

pub loop-p-preserved : goal.loop-p-preserved
loop-p-preserved c =
    let more = total_more (λ p. get_or c.args.self.state.now p 0) c.args.c c.loop-p.p-index c.loop-p-test.true in
    (omega (arith, more, c.loop-p.invariant.0), omega (arith, c.loop-p.invariant.1))

pub returns : goal.returns
unfolding unmoved
returns c =
    let is = c.loop-p.invariant.0 ∙ total_all (λ p. get_or c.args.self.state.now p 0) c.args.c c.loop-p.p-index c.loop-p-test.false in
    ap (λ (k : ℕ). eqb k 0) is
