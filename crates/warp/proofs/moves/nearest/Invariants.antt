-- The loop's invariant: whatever codes are taken, of so many the nearest. Assumes nothing.
use Rattle.std.specs.Prelude.{ℕ, Bool}
use Rattle.warp.specs.inner.Quick.{byte_if}
use Rattle.warp.specs.inner.Turns.{Telling}
use Rattle.warp.proofs.Searching.{Searching}
use Rattle.warp.proofs.moves.nearest.Given as goal

abbrev pub invariant-loop-code : goal.invariant-loop-code
invariant-loop-code g l =
    (taken : ℕ → Bool) → Telling (goal.F-post g l.is_taken) taken → Searching (byte_if taken l.cuts l.at) l.found l.best l.code
