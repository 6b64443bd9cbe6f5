-- The loop's invariant: no byte seen is above the highest. Assumes nothing.
use Rattle.std.proofs.Common.{ℕ, ◌<◌, ◌≤◌, get_or}
use Rattle.ranges.proofs.is_highest_zero.Given as goal

abbrev pub invariant-loop-byte : goal.invariant-loop-byte
invariant-loop-byte l = (o : ℕ) → o < l.byte-index → get_or l.bytes o 0 ≤ l.top
