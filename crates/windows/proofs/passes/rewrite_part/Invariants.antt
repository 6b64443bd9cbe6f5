-- The loop's invariant: the entries below the index are rewritten. Assumes nothing.
use Prim.Native.Nat.{◌*◌}
use Rattle.windows.specs.inner.Windows.{window, in_window}
use Rattle.windows.proofs.Rewriting.{RewritesTo}
use Rattle.windows.proofs.passes.rewrite_part.Given as goal

abbrev pub invariant-loop-id : goal.invariant-loop-id
invariant-loop-id g l =
    RewritesTo (in_window (g.N.Numbers.number_of l.numbers) (window * l.w.index)) l.initial.rows l.rows l.id-index
