-- The first N, 7N and N entries are lent; the answer of filling is summed up. Assumes nothing.
use native.Mathlib.Omega.{arith}
use mathlib.Core.Path.{refl, sym}
use Rattle.fill_file.specs.inner.Answer.{answer_of}
use lib.Seq.{length-take-le}
use Rattle.lattice.proofs.Bounds.{points_small}
use Rattle.fill_file.proofs.Counted.{measured_points, counted_refused, counted_filled, filled_is}
use Rattle.fill_file.proofs.fill_read.Goals as goal

pub overflow_mul-e : goal.overflow_mul-e
overflow_mul-e c =
    omega (arith, points_small _ c.args.block.lattice.sized, measured_points _ c.args.block.lattice.sized c.yakuemi_measures-m.ensures)

pub slice_bounds-yakuemi_fill-end : goal.slice_bounds-yakuemi_fill-end
slice_bounds-yakuemi_fill-end c =
    sym (length-take-le _ _ (omega (arith, c.requires.0, measured_points _ c.args.block.lattice.sized c.yakuemi_measures-m.ensures)))

pub slice_bounds-yakuemi_fill-end-2 : goal.slice_bounds-yakuemi_fill-end-2
slice_bounds-yakuemi_fill-end-2 c =
    sym (length-take-le _ _ (omega (arith, c.requires.1, measured_points _ c.args.block.lattice.sized c.yakuemi_measures-m.ensures)))

pub returns-then-f-ne0 : goal.returns-then-f-ne0
unfolding answer_of
returns-then-f-ne0 c =
    let f = c.yakuemi_fill-f.ensures in
    let w = filled_is _ _ _ _ _ (measured_points _ c.args.block.lattice.sized c.yakuemi_measures-m.ensures) c.min-k.ensures
    (record { answer = f.answer; state_is = f.state; rows_are = f.rows }) (counted_refused _ _ c.if-f-ne0.true refl) in
    record { value = w.0; state_after = w.1.0; rows_after = w.1.1 }

pub returns : goal.returns
unfolding answer_of
returns c =
    let f = c.yakuemi_fill-f.ensures in
    let w = filled_is _ _ _ _ _ (measured_points _ c.args.block.lattice.sized c.yakuemi_measures-m.ensures) c.min-k.ensures
    (record { answer = f.answer; state_is = f.state; rows_are = f.rows })
    (counted_filled _ _ c.if-f-ne0.false c.yakuemi_measures-m.ensures) in
    record { value = w.0; state_after = w.1.0; rows_after = w.1.1 }
