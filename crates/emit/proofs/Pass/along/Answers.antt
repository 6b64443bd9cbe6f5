-- The strides along each axis, and how many cubes have a next one. Assumes nothing.
use Prim.Native.Nat.{ℕ}
use mathlib.Core.Path.{ap, ◌∙◌}
use Rattle.emit.proofs.PassLaws.{coded_pass, along_is}
use Rattle.emit.proofs.Pass.along.Goals as goal

pub returns : goal.returns
returns c =
    ap (λ (n : ℕ). coded_pass c.args.lattice.sizes n c.args.axis) c.point_count.ensures
    ∙ along_is c.args.lattice.sizes c.args.axis c.requires
