-- The loop's invariant: the entries below the index are in windows, and have their hits. Assumes nothing.
use Rattle.windows.proofs.Spreading.{Tells}
use Rattle.windows.proofs.hits.Hits.spread_entries.Given as goal

abbrev pub invariant-loop-id : goal.invariant-loop-id
invariant-loop-id l = Tells l.initial.self.bits.words l.self.bits.words l.rows l.p l.id-index
