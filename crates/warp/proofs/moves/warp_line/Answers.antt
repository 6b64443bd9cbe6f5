-- So many points of the line have had their turns. Assumes nothing.
use native.Mathlib.Omega.{arith}
use Prim.Native.Nat.{◌<◌}
use mathlib.Core.Path.{refl}
use Rattle.lattice.specs.Axis.{along_x}
use Rattle.lattice.specs.Counts.{grid}
use Rattle.lattice.proofs.Bounds.{points_small}
use Rattle.lattice.proofs.Sites.{numbers_small}
use Rattle.lines.proofs.Points.{sited}
use Rattle.lines.proofs.Lines.{line_stands, line_fits}
use Rattle.lines.proofs.Sites.{along_sited, along_own}
use Rattle.warp.proofs.Counted.{counted_few}
use Rattle.warp.proofs.Turning.{walked_starts, walked_long, walked_turn, walked_inside, walked_stays, walked_goes, walked_whole}
use Rattle.warp.proofs.moves.warp_line.Goals.{in-Some, in_default}
use Rattle.warp.proofs.moves.warp_line.Goals as goal

pub loop-x-init : goal.loop-x-init
loop-x-init c = walked_starts _ c.requires.state_value

pub along-here-requires : goal.along-here-requires
along-here-requires c =
    let l = c.args.scan.lattice in
    let small = numbers_small l.sizes c.args.q l.sized (sited (line_stands c.requires.line)) in
    (omega arith, omega arith, omega (arith, c.line_length-x-end.ensures))

pub turn-requires : goal.turn-requires
turn-requires c =
    let inside : c.loop-x.x < grid c.args.scan.lattice.sizes c.args.q.kind along_x = omega (arith, c.line_length-x-end.ensures) in
    let own = along_own c.requires.line inside c.along-here.ensures in
    walked_turn _ c.loop-x.invariant inside own (along_sited c.requires.line inside c.along-here.ensures)

pub bounds-state-here : goal.bounds-state-here
bounds-state-here c =
    let inside : c.loop-x.x < grid c.args.scan.lattice.sizes c.args.q.kind along_x = omega (arith, c.line_length-x-end.ensures) in
    let own = along_own c.requires.line inside c.along-here.ensures in
    let fits = line_fits c.requires.line c.args.scan.lattice.sized in
    omega (arith, own, walked_inside _ c.loop-x.invariant inside (omega arith))

pub overflow_add-moved : goal.overflow_add-moved
overflow_add-moved c =
    let i = c.loop-x.invariant in
    let inside : c.loop-x.x < grid c.args.scan.lattice.sizes c.args.q.kind along_x = omega (arith, c.line_length-x-end.ensures) in
    let few = counted_few c.loop-x.state in
    let l = c.args.scan.lattice in
    omega (arith, i.counted, few, walked_long _ i inside, points_small l.sizes l.sized)

pub loop-x-preserved : goal.loop-x-preserved
loop-x-preserved c =
    let i = c.loop-x.invariant in
    let inside : c.loop-x.x < grid c.args.scan.lattice.sizes c.args.q.kind along_x = omega (arith, c.line_length-x-end.ensures) in
    let own = along_own c.requires.line inside c.along-here.ensures in
    let fits = line_fits c.requires.line c.args.scan.lattice.sized in
    elim c.match-turn.branch [
      | in-Some w ↦ walked_goes _ i inside _ own c.turn.ensures fits w.in-Some.is w.state-is w.moved-is
      | in_default w ↦ walked_stays _ i inside _ own c.turn.ensures w.in_default.is w.state-is w.moved-is
    ]

pub returns : goal.returns
returns c =
    let i = c.loop-x.invariant in
    record {
      state_after = walked_whole _ i (omega (arith, c.line_length-x-end.ensures)) _ refl;
      counted = i.counted;
    }
