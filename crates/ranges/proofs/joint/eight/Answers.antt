-- The two halves, as digits of one number. Assumes nothing.
use native.Mathlib.Omega.{arith}
use mathlib.Core.Path.{refl}
use Rattle.ranges.proofs.Eights.{halves}
use Rattle.ranges.proofs.joint.eight.Goals as goal

pub returns : goal.returns
returns c =
    halves (omega arith) refl c.four.ensures.joint c.four-2.ensures.joint (λ z. (omega arith, omega arith)) (λ y z. omega arith)
