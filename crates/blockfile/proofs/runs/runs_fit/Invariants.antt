-- After i runs, all of which fit, the rest decides. Assumes nothing.
use Rattle.blockfile.proofs.Fitting.{Fitted}
use Rattle.blockfile.proofs.runs.runs_fit.Given as goal

abbrev pub invariant-loop-i : goal.invariant-loop-i
invariant-loop-i l = Fitted l.bytes l.head l.count l.total l.least l.i
