-- Nothing is found in the lines so far. Assumes nothing.
use Prim.Native.Nat.{ℕ, ◌<◌}
use Rattle.labelling.specs.inner.Scans.{label_in}
use Rattle.emit.specs.inner.Cubes.{point_of, Light}
use Rattle.emit.proofs.bare.is_bare_run.Given as goal

abbrev pub invariant-loop-p : goal.invariant-loop-p
invariant-loop-p l = (i : ℕ) → i < l.p-index → Light (label_in l.scan) (point_of l.fn.first i) l.count
