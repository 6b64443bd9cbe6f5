-- The loop's invariant: the window's ids in the parts gone over are marked, and no others. Assumes nothing.
use mathlib.Core.Path.{sym, ◌∙◌}
use Rattle.std.proofs.Common.{rules}
use Rattle.windows.proofs.Parts.{left_none, left_more, taken}
use Rattle.windows.proofs.Windowing.{windowed_none, marked_part, passed_part, not_there}
use Rattle.windows.proofs.hits.Hits.mark_window.Goals as goal

pub loop-p-init : goal.loop-p-init
loop-p-init c =
    record {
      done = windowed_none _ _ (search rules) c.args.bits.now.long c.clear.ensures;
      left = left_none (search rules) (search rules) (search rules);
    }

pub loop-p-preserved-then-has : goal.loop-p-preserved-then-has
loop-p-preserved-then-has c =
    let i = c.loop-p.invariant in
    let e = c.in-Some.ensures.steps in
    let t = taken e.0.0 e.0.1.0 e.0.1.1 e.0.1.2 e.1 e.2 in
    record { done = marked_part i.done i.left t c.mark_part.ensures; left = left_more i.left t }

pub loop-p-preserved : goal.loop-p-preserved
loop-p-preserved c =
    let i = c.loop-p.invariant in
    let e = c.in-Some.ensures.steps in
    let t = taken e.0.0 e.0.1.0 e.0.1.1 e.0.1.2 e.1 e.2 in
    record {
      done = passed_part i.done i.left t (not_there c.requires (sym c.has.ensures ∙ c.if-has.false));
      left = left_more i.left t;
    }
