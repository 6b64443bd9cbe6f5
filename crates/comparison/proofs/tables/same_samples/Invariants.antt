-- After i samples as stated the rest decides. Assumes nothing.
use mathlib.Core.Path.{◌≡◌}
use lib.ListN.{length, drop}
use Rattle.blockfile.specs.Format.{samples_from}
use Rattle.comparison.specs.program.Same.{same_samples}
use Rattle.comparison.proofs.Samples.{samples_after}
use Rattle.comparison.proofs.tables.same_samples.Given as goal

abbrev pub invariant-loop-i : goal.invariant-loop-i
invariant-loop-i l =
    same_samples (drop l.i l.samples) (samples_after l.samples l.bytes l.at l.i)
    ≡ same_samples l.samples (samples_from l.bytes l.at (length l.samples))
