-- After i runs, all of which fit, the rest decides. Assumes nothing.
use mathlib.Core.Path.{sym, ◌∙◌}
use Rattle.blockfile.proofs.Fitting.{fitted_next, fitted_not, fitted_all}
use Rattle.blockfile.proofs.runs.runs_fit.Goals as goal

pub returns-then-not-run_fits : goal.returns-then-not-run_fits
returns-then-not-run_fits c =
    fitted_not c.loop-i.invariant c.loop-i-test.true
    c.run_at-r.ensures (sym c.run_fits.ensures ∙ c.if-not-run_fits.true)

pub loop-i-preserved : goal.loop-i-preserved
loop-i-preserved c =
    rw c.end-least.ensures
    (fitted_next c.loop-i.invariant c.loop-i-test.true
    c.run_at-r.ensures (sym c.run_fits.ensures ∙ c.if-not-run_fits.false))

pub returns : goal.returns
returns c = fitted_all c.loop-i.invariant c.loop-i-test.false
