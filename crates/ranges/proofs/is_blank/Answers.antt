-- The loop's invariant: where nothing was seen, the eights tested so far are zero. Assumes nothing.
use native.Mathlib.Omega.{arith}
use mathlib.Core.Path.{refl, ◌∙◌}
use Rattle.ranges.proofs.Eights.{seen_more, whole}
use Rattle.ranges.proofs.is_blank.Goals as goal

pub loop-eight-preserved : goal.loop-eight-preserved
loop-eight-preserved c = seen_more c.loop-eight.invariant refl c.eight-seen.ensures

pub returns-then-seen-eq0 : goal.returns-then-seen-eq0
returns-then-seen-eq0 c =
    let p = c.as_chunks.ensures in
    λ t o l u. c.there.ensures 0 o l u
    ∙ whole _ _ c.loop-eight.invariant (omega arith) c.if-seen-eq0.true p.front p.back (c.is_highest_zero.ensures t) _
