-- Each of the six lines ends among the points; where nothing is found in any, every cube is bare. Assumes nothing.
use native.Mathlib.Omega.{arith}
use Rattle.labelling.specs.inner.Scans.{label_in}
use Rattle.emit.proofs.BareLaws.{bare_run, run_ends, light_more}
use Rattle.emit.proofs.bare.is_bare_run.Goals as goal

pub has_plus-requires : goal.has_plus-requires
has_plus-requires c = run_ends c.requires (omega (arith, c.if-count-eq0.false)) _ (omega arith)

pub loop-p-preserved : goal.loop-p-preserved
loop-p-preserved c = light_more (label_in c.args.scan) c.args.first c.args.count c.loop-p.p-index c.loop-p.invariant (c.has_plus.ensures c.if-has_plus.false)

pub returns : goal.returns
returns c = λ t. bare_run (label_in c.args.scan) c.args.first c.args.count (λ i h. c.loop-p.invariant i (omega arith))

pub returns-then-count-eq0 : goal.returns-then-count-eq0
returns-then-count-eq0 c = λ t x h. absurd (omega (arith, h, c.if-count-eq0.true))
