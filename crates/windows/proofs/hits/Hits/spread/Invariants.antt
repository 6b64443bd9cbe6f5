-- The loop's invariant: the entries of the parts gone over are in windows and have their hits. Assumes nothing.
use Rattle.windows.proofs.Parts.{Left}
use Rattle.windows.proofs.Spreading.{Spreads}
use Rattle.windows.proofs.hits.Hits.spread.Given as goal

abbrev pub invariant-loop-p : goal.invariant-loop-p
invariant-loop-p l =
    record {
      done : Spreads l.self.bits.words l.rows l.p-iterator.count;
      left : Left l.rows l.p-iterator.iter.rest.now l.p-iterator.iter.size l.p-iterator.count;
    }
