-- Six points, one by one. Assumes nothing.
use mathlib.Core.Path.{refl, sym, ◌∙◌}
use native.Mathlib.Omega.{arith}
use Rattle.labelling.specs.inner.Scans.{label_in}
use Rattle.emit.specs.inner.Cubes.{plus_at, plus_count}
use Rattle.emit.proofs.CubeLaws.{total_to, total_more, total_all, plus_one, plus_none}
use Rattle.emit.proofs.Moved.count_plus.Goals as goal
use Rattle.emit.proofs.Moved.count_plus.Goals.{then-is_plus, else-is_plus}

pub loop-p-init : goal.loop-p-init
unfolding total_to
loop-p-init c = (refl, omega arith)

pub overflow_add-plus : goal.overflow_add-plus
overflow_add-plus c = omega (arith, c.loop-p.invariant.1)

pub loop-p-preserved : goal.loop-p-preserved
loop-p-preserved c =
    let f = plus_at (label_in c.args.self.scan) in
    let more = total_more f c.args.c c.loop-p.p-index c.loop-p-test.true in
    elim c.if-is_plus.branch [
      | then-is_plus w ↦
          let one = plus_one (label_in c.args.self.scan) _ (sym c.is_plus.ensures ∙ w.if-is_plus.true) in
          (omega (arith, more, one, w.plus-is, c.loop-p.invariant.0), omega (arith, w.plus-is, c.loop-p.invariant.1))
      | else-is_plus w ↦
          let none = plus_none (label_in c.args.self.scan) _ (sym c.is_plus.ensures ∙ w.if-is_plus.false) in
          (omega (arith, more, none, w.plus-is, c.loop-p.invariant.0), omega (arith, w.plus-is, c.loop-p.invariant.1))
    ]

pub returns : goal.returns
unfolding plus_count
returns c =
    c.loop-p.invariant.0 ∙ total_all (plus_at (label_in c.args.self.scan)) c.args.c c.loop-p.p-index c.loop-p-test.false
