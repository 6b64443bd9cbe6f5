-- One step an axis. Assumes nothing.
use native.Mathlib.Omega.{arith}
use mathlib.Core.Path.{ap}
use Rattle.lattice.proofs.Sites.{shift_small}
use Rattle.lattice.specs.declared.Shift.{Shift}
use Rattle.lattice.specs.Axis.{along_x, along_y, along_z}
use Rattle.lattice.specs.Direction.{step}
use Rattle.lattice.specs.inner.Site.{shift_of}
use Rattle.triple.specs.inner.Places.{place_at, along}
use Rattle.triple.proofs.Box.{place_is}
use Rattle.places.proofs.Standing.{stepped_is}
use Rattle.places.proofs.points.led.Goals as goal

pub stepped-requires-clause-t_bound : goal.stepped-requires-clause-t_bound
stepped-requires-clause-t_bound c = omega (arith, shift_small c.args.code.code c.args.code.names_edge _ c.shift-w.ensures)

pub stepped-requires-2-clause-t_bound : goal.stepped-requires-2-clause-t_bound
stepped-requires-2-clause-t_bound c = omega (arith, shift_small c.args.code.code c.args.code.names_edge _ c.shift-w.ensures)

pub stepped-requires-3-clause-t_bound : goal.stepped-requires-3-clause-t_bound
stepped-requires-3-clause-t_bound c = omega (arith, shift_small c.args.code.code c.args.code.names_edge _ c.shift-w.ensures)

pub returns-clause-result_value : goal.returns-clause-result_value
unfolding along shift_of
returns-clause-result_value c =
    let way = step c.args.code.code in
    let box = c.requires.in_box in
    let shift = c.shift-w.ensures in
    let x = stepped_is (way along_x) c.args.t (ap (λ (t : Shift). t.ux) shift) (ap (λ (t : Shift). t.dx) shift) box.in_x
    c.stepped.type_inv (c.stepped.ensures.value, c.stepped.ensures.within_2) in
    let y = stepped_is (way along_y) c.args.t (ap (λ (t : Shift). t.uy) shift) (ap (λ (t : Shift). t.dy) shift) box.in_y
    c.stepped-2.type_inv (c.stepped-2.ensures.value, c.stepped-2.ensures.within_2) in
    let z = stepped_is (way along_z) c.args.t (ap (λ (t : Shift). t.uz) shift) (ap (λ (t : Shift). t.dz) shift) box.in_z
    c.stepped-3.type_inv (c.stepped-3.ensures.value, c.stepped-3.ensures.within_2) in
    place_is (along (place_at c.args.from) way c.args.t) x.eq y.eq z.eq
