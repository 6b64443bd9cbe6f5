-- The loop's invariant: the ends before d. Assumes nothing.
use Rattle.patch.specs.inner.Mends.{Chosen}
use Rattle.patch.proofs.table.crossing_ends.Given as goal

abbrev pub invariant-loop-d : goal.invariant-loop-d
invariant-loop-d l = Chosen l.must l.far-items l.ends l.d
