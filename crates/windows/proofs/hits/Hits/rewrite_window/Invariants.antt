-- The loop's invariant: the entries of the first p parts are rewritten. Assumes nothing.
use Prim.Native.Nat.{◌*◌}
use Rattle.windows.specs.inner.Windows.{window, part, in_window}
use Rattle.windows.proofs.Rewriting.{RewritesTo}
use Rattle.windows.proofs.hits.Hits.rewrite_window.Given as goal

abbrev pub invariant-loop-p : goal.invariant-loop-p
invariant-loop-p g l =
    RewritesTo (in_window (g.N.Numbers.number_of l.numbers) (window * l.w.index)) l.initial.rows l.rows (part * l.p)
