-- Nothing where no cube has a plus; else cubes, one after the other along x. Assumes nothing.
use Rattle.basics.proofs.Written.{nothing, none_written, more_written, index_most, all_written}
use Rattle.emit.proofs.PassLaws.{run_known, run_own, placed_is, placed_most, bare_run_ids}
use Rattle.emit.proofs.CubeLaws.{bare_after}
use Rattle.emit.proofs.Room.{room_left}
use Rattle.emit.specs.inner.Cubes.{cube_most}
use Rattle.emit.specs.inner.Moving.{moved_label}
use Rattle.emit.specs.inner.Passes.{run_ids}
use native.Mathlib.Omega.{arith}
use Rattle.emit.proofs.passes.write_run.Goals as goal

pub returns-then-is_bare_run : goal.returns-then-is_bare_run
returns-then-is_bare_run c =
    let none = c.is_bare_run.ensures c.if-is_bare_run.true in
    nothing _ _ (bare_run_ids (moved_label c.args.moved) c.args.first c.args.count (λ x h. bare_after _ _ _ (none x h)))

pub loop-x-init : goal.loop-x-init
loop-x-init c = (omega arith, none_written _ _ _)

pub shifted-requires : goal.shifted-requires
shifted-requires c = run_own c.requires.known_run c.loop-x-test.true

pub write_cube-to-requires : goal.write_cube-to-requires
unfolding run_ids
write_cube-to-requires c =
    let i = c.loop-x.invariant in
    let h = c.loop-x-test.true in
    let label = moved_label c.args.moved in
    record {
      known_cube = run_known c.requires.known_run h c.shifted.ensures;
      cube_most_bound = omega (arith, index_most i.1 cube_most _ (λ j l. placed_most label c.args.first j) i.0, c.requires.known_run.few, c.requires.line_most_bound);
      room = room_left i.1 _ (placed_is label c.args.first c.loop-x.x _ c.shifted.ensures) h c.requires.room;
    }

pub loop-x-preserved : goal.loop-x-preserved
loop-x-preserved c =
    (omega arith, more_written c.loop-x.invariant.1 (placed_is (moved_label c.args.moved) c.args.first c.loop-x.x _ c.shifted.ensures) c.write_cube-to.ensures)

pub returns : goal.returns
unfolding run_ids
returns c = all_written c.loop-x.invariant.1 _ (omega arith) (omega arith)
