-- After i runs, their bytes and those of the rest make the whole. Assumes nothing.
use Rattle.blockfile.proofs.Fitting.{Summed}
use Rattle.blockfile.proofs.runs.run_bytes.Given as goal

abbrev pub invariant-loop-i : goal.invariant-loop-i
invariant-loop-i l = Summed l.bytes l.head l.count l.sum l.i
