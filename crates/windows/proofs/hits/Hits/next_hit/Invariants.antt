-- The loop's invariant: no window from the first on and before the index is hit. Assumes nothing.
use Rattle.windows.specs.inner.Windows.{NextHit}
use Rattle.windows.proofs.hits.Hits.next_hit.Given as goal

abbrev pub invariant-loop-index : goal.invariant-loop-index
invariant-loop-index l = NextHit l.self.bits.words l.n l.from l.index
