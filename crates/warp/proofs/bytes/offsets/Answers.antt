-- The offsets of the first directions are written. Assumes nothing.
use native.Mathlib.Omega.{arith}
use mathlib.Core.Path.{refl}
use Rattle.lattice.proofs.Sites.{numbers_small}
use Rattle.lines.proofs.FarEnds.{start_small}
use Rattle.warp.proofs.Offsets.{offsets_of}
use Rattle.warp.proofs.bytes.offsets.Goals as goal

pub overflow_mul-first : goal.overflow_mul-first
overflow_mul-first c = omega (arith, numbers_small c.args.lattice.sizes c.args.q c.args.lattice.sized c.requires)

pub overflow_add-at : goal.overflow_add-at
overflow_add-at c = omega (arith, numbers_small c.args.lattice.sizes c.args.q c.args.lattice.sized c.requires)

pub overflow_mul-at : goal.overflow_mul-at
overflow_mul-at c =
    let small = start_small c.args.lattice.sizes c.args.q c.requires c.args.lattice.sized in
    omega (arith, small _ c.behind-back.ensures c.loop-d.d c.loop-d-test.true)

pub overflow_add-at-in-loop-d : goal.overflow_add-at-in-loop-d
overflow_add-at-in-loop-d c =
    let small = start_small c.args.lattice.sizes c.args.q c.requires c.args.lattice.sized in
    omega (arith, small _ c.behind-back.ensures c.loop-d.d c.loop-d-test.true)

pub returns : goal.returns
returns c =
    offsets_of c.args.lattice.sizes c.args.q c.requires c.behind-back.ensures refl c.loop-d.invariant c.loop-d-test.false
