-- The first p entries are those of the outset. Assumes nothing.
use Prim.Native.Nat.{◌≤◌}
use mathlib.Core.Path.{◌≡◌}
use lib.ListN.{length, take}
use Rattle.labelling.specs.inner.Scans.{label_in}
use Rattle.warp.specs.inner.Quick.{outset_of}
use Rattle.warp.proofs.moves.mark.Given as goal

abbrev pub invariant-loop-p : goal.invariant-loop-p
invariant-loop-p l =
    (take l.p l.state ≡ outset_of (label_in l.scan) l.p) × (l.p ≤ l.p-end) × (length l.state ≡ length l.initial.state)
