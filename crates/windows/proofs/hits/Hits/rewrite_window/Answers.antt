-- The loop's invariant: the entries of the first p parts are rewritten. Assumes nothing.
use Prim.Native.Nat.{◌+◌, ◌*◌, ◌-◌}
use native.Mathlib.Omega.{arith}
use mathlib.Core.Path.{sym, ◌∙◌}
use Rattle.windows.specs.inner.Windows.{part}
use Rattle.windows.proofs.Windowing.{not_there}
use Rattle.windows.proofs.Putting.{out_of_window}
use Rattle.windows.proofs.Rewriting.{rewrites_none, rewrites_part, rewrites_kept}
use Rattle.windows.proofs.hits.Hits.rewrite_window.Goals as goal
use Rattle.windows.proofs.hits.Hits.rewrite_window.Goals.{then-has, else-has}

pub loop-p-init : goal.loop-p-init
loop-p-init g c = rewrites_none _ _

pub loop-p-preserved : goal.loop-p-preserved
loop-p-preserved g c =
    let l = c.loop-p-test.true in
    let i = c.loop-p.invariant in
    let p = c.loop-p.p in
    let b = part * (p + 1) in
    elim c.if-has.branch [
      | then-has w ↦
          let n = 256 * p + w.min.result - 256 * p in
          rewrites_part i b n (omega arith) (omega arith) (omega arith) (λ s. omega arith) w.rewrite_part.ensures w.rows-is
      | else-has w ↦
          let none = not_there c.requires (sym c.has.ensures ∙ w.if-has.false) in
          rewrites_kept i b (omega arith) (λ j h m s. out_of_window _ _ _ (none j h (omega arith))) w.rows-is
    ]
