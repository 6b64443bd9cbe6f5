-- The first ranges are without a cut. Assumes nothing.
use Prim.Native.Nat.{ℕ, ◌<◌}
use lib.ListN.{get_or}
use Rattle.warp.specs.inner.Quick.{Uncut}
use Rattle.warp.proofs.bytes.is_bare_line.Given as goal

abbrev pub invariant-loop-first : goal.invariant-loop-first
invariant-loop-first l = (j : ℕ) → j < l.first-index → Uncut l.cuts (get_or l.first-items j 0) l.m
