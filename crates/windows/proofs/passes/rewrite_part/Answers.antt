-- The loop's invariant: the entries below the index are rewritten. Assumes nothing.
use mathlib.Core.Path.{sym, ◌∙◌}
use Rattle.windows.proofs.Putting.{at_place, out_of_window}
use Rattle.windows.proofs.Rewriting.{rewrites_one}
use Rattle.windows.proofs.passes.rewrite_part.Goals as goal
use Rattle.windows.proofs.passes.rewrite_part.Goals.{in-Some, in_default}

pub loop-id-preserved : goal.loop-id-preserved
loop-id-preserved g c =
    let i = c.loop-id.invariant in
    let l = c.loop-id-test.true in
    elim c.match-place.branch [
      | in-Some w ↦
          let there = w.in-Some.ensures in
          rewrites_one i _ l (w.number.ensures ∙ sym (at_place _ _ _ there.0 there.1)) w.rows-is
      | in_default w ↦ rewrites_one i _ l (sym (out_of_window _ _ _ w.in_default.ensures)) w.rows-is
    ]
