-- What is left to lay down, laid down, gives the whole. Assumes nothing.
use Prim.Native.Nat.{◌+◌, ◌-◌}
use native.Mathlib.Omega.{arith}
use mathlib.Core.Path.{◌≡◌, ◌∙◌}
use lib.ListN.{length, take, drop, replicate, length-drop}
use lib.Seq.{sets, length-take-le}
use borrow.Rule.Slice.PartMut.{put_mid}
use Rattle.blockfile.proofs.Laid.{zeros_put, bytes_put}
use Rattle.blockfile.proofs.cuts.write_cuts.Goals.{After-fill}
use Rattle.blockfile.proofs.Laid.{next_fits, next_there, cleared_long, laid_next, laid_all}
use Rattle.blockfile.proofs.cuts.write_cuts.Goals as goal

pub slice_bounds-fill-count : goal.slice_bounds-fill-count
slice_bounds-fill-count c =
    omega (arith, (next_fits c.loop-i.invariant c.loop-i-test.true c.run_at-r.ensures).after, c.start-start.ensures)

pub slice_bounds-fill-start : goal.slice_bounds-fill-start
slice_bounds-fill-start c =
    omega (arith, (next_fits c.loop-i.invariant c.loop-i-test.true c.run_at-r.ensures).after, c.start-start.ensures)

-- the gap before a run, once it is cleared
cleared : (c : After-fill) → put_mid c.loop-i.k (c.start-start.result - c.loop-i.k) c.loop-i.table c.fill.new.self
    ≡ sets c.loop-i.table c.loop-i.k (replicate (c.run_at-r.result.offset - c.loop-i.k) 0)
cleared c =
    let v = next_fits c.loop-i.invariant c.loop-i-test.true c.run_at-r.ensures in
    rw (← c.start-start.ensures)
    (zeros_put c.loop-i.k (c.start-start.result - c.loop-i.k) c.loop-i.table c.fill.new.self
    (omega (arith, v.after, v.within, c.loop-i.invariant.long, c.start-start.ensures)) (c.fill.ensures.after (λ y e. e)))

pub slice_bounds-copy_from_slice-end : goal.slice_bounds-copy_from_slice-end
slice_bounds-copy_from_slice-end c =
    let v = next_fits c.loop-i.invariant c.loop-i-test.true c.run_at-r.ensures in
    let w = goal.at.slice_bounds-copy_from_slice-end c in
    omega (arith, v.within, cleared_long c.loop-i.invariant (c.run_at-r.result.offset - c.loop-i.k) (cleared w.After-fill), c.end-k.ensures)

pub slice_bounds-fill-end : goal.slice_bounds-fill-end
slice_bounds-fill-end c =
    omega (arith, next_fits c.loop-i.invariant c.loop-i-test.true c.run_at-r.ensures, c.loop-i.invariant)

pub slice_bounds-copy_from_slice-end-in-loop-i : goal.slice_bounds-copy_from_slice-end-in-loop-i
slice_bounds-copy_from_slice-end-in-loop-i c =
    omega (arith, next_there c.loop-i.invariant c.loop-i-test.true c.run_at-r.ensures)

pub loop-i-preserved : goal.loop-i-preserved
loop-i-preserved c =
    let w = (goal.at.loop-i-preserved c).After-fill in
    let v = next_fits c.loop-i.invariant c.loop-i-test.true c.run_at-r.ensures in
    let l = cleared_long c.loop-i.invariant (c.run_at-r.result.offset - c.loop-i.k) (cleared w) in
    let e : c.end-k.result ≡ c.run_at-r.result.offset + c.run_at-r.result.length = c.end-k.ensures in
    let there = next_there c.loop-i.invariant c.loop-i-test.true c.run_at-r.ensures in
    let start = c.start-start.result in
    let u = put_mid c.loop-i.k (start - c.loop-i.k) c.loop-i.table c.fill.new.self in
    let n : length (take (c.loop-i.at + c.from.result - c.loop-i.at) (drop c.loop-i.at c.args.bytes.now)) ≡ c.end-k.result - start =
    length-take-le _ _ (rw length-drop (omega (arith, there, c.from.ensures))) ∙ omega (arith, e, c.start-start.ensures, c.from.ensures) in
    let q : put_mid start (c.end-k.result - start) u c.copy_from_slice.new.self
    ≡ sets u c.run_at-r.result.offset (take (c.loop-i.at + c.run_at-r.result.length - c.loop-i.at) (drop c.loop-i.at c.args.bytes.now)) =
    rw (← c.start-start.ensures, ← c.from.ensures)
    (bytes_put start (c.end-k.result - start) u c.copy_from_slice.new.self
    (omega (arith, l, e, v.within, c.start-start.ensures)) c.copy_from_slice.ensures.after n) in
    rw (e, c.from.ensures) (laid_next c.loop-i.invariant c.loop-i-test.true c.run_at-r.ensures (cleared w) (rw e at q))

pub returns : goal.returns
returns c =
    laid_all c.loop-i.invariant c.loop-i-test.false
    (zeros_put c.loop-i.k (c.args.total - c.loop-i.k) c.loop-i.table c.fill-2.new.self
    (omega (arith, c.loop-i.invariant.low, c.loop-i.invariant.long)) (c.fill-2.ensures.after (λ y e. e)))
