-- After i ids that stand in the table the rest decides. Assumes nothing.
use mathlib.Core.Path.{◌≡◌}
use lib.ListN.{length, drop}
use Rattle.comparison.specs.program.Same.{same, ids_from}
use Rattle.comparison.proofs.Turns.{ids_after}
use Rattle.comparison.proofs.tables.same_ids.Given as goal

abbrev pub invariant-loop-i : goal.invariant-loop-i
invariant-loop-i l =
    same (drop l.i l.rows) (ids_after l.rows l.bytes l.at l.i) ≡ same l.rows (ids_from l.bytes l.at (length l.rows))
