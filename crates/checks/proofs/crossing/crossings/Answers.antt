-- The loop's invariant: the answers in the directions before d. Assumes nothing.
use native.Mathlib.Omega.{arith}
use Rattle.checks.proofs.Edges.{marked}
use Rattle.checks.proofs.crossing.crossings.Goals as goal

pub returns : goal.returns
returns c = marked c.loop-d.invariant (omega arith)
