-- The loop's invariant: the entries of the parts gone over are in windows and have their hits. Assumes nothing.
use Rattle.windows.proofs.Parts.{left_more, taken}
use Rattle.windows.proofs.Spreading.{spreads_taken}
use Rattle.windows.proofs.hits.Hits.spread.Goals as goal

pub loop-p-preserved : goal.loop-p-preserved
loop-p-preserved c =
    let i = c.loop-p.invariant in
    let e = c.in-Some.ensures.steps in
    let t = taken e.0.0 e.0.1.0 e.0.1.1 e.0.1.2 e.1 e.2 in
    record {
      done = spreads_taken i.left t (c.spread_part.ensures.told c.if-not-spread_part.false) i.done c.spread_part.ensures.grows;
      left = left_more i.left t;
    }
