-- The loop's invariant: the window's ids in the parts gone over are marked, and no others. Assumes nothing.
use Prim.Native.Nat.{◌*◌}
use Rattle.windows.specs.inner.Windows.{window}
use Rattle.windows.proofs.Parts.{Left}
use Rattle.windows.proofs.Windowing.{WindowedTo}
use Rattle.windows.proofs.hits.Hits.mark_window.Given as goal

abbrev pub invariant-loop-p : goal.invariant-loop-p
invariant-loop-p l =
    record {
      done : WindowedTo (window * l.w.index) l.rows l.bits.words l.p-iterator.count;
      left : Left l.rows l.p-iterator.iter.rest.now l.p-iterator.iter.size l.p-iterator.count;
    }
