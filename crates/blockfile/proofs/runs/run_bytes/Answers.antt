-- After i runs, their bytes and those of the rest make the whole. Assumes nothing.
use mathlib.Core.Path.{◌∙◌}
use native.Mathlib.Omega.{arith}
use Rattle.blockfile.proofs.Fitting.{summed_next, summed_all}
use Rattle.blockfile.proofs.runs.run_bytes.Goals as goal

pub loop-i-preserved : goal.loop-i-preserved
loop-i-preserved c = summed_next c.loop-i.invariant c.loop-i-test.true (c.from-sum.ensures ∙ c.two_at.ensures) (omega (arith, c.from-sum.ensures))

pub returns : goal.returns
returns c = record {
  value = summed_all c.loop-i.invariant c.loop-i-test.false;
  upper_bound = omega arith;
}
