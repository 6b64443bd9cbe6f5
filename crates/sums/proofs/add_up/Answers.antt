-- Each turn adds a row. Assumes nothing.
use native.Mathlib.Omega.{arith}
use Rattle.sums.proofs.Added.{none_added, one_added}
use Rattle.sums.proofs.add_up.Goals as goal

pub loop-i-init : goal.loop-i-init
loop-i-init c = (omega arith, none_added _ _)

pub loop-i-preserved : goal.loop-i-preserved
loop-i-preserved c =
    let v = c.volume_at-v in
    let w = c.loop-i.invariant in
    (omega arith, rw c.lesser-least.ensures (one_added _ _ w.1 v.ensures.result_value v.ensures.upper_bound))
