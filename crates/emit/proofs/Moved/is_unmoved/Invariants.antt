-- The bytes of the points so far, added up. Assumes nothing.
use Prim.Native.Nat.{◌*◌, ◌≤◌}
use mathlib.Core.Path.{◌≡◌}
use lib.ListN.{get_or}
use Rattle.emit.proofs.CubeLaws.{total_to}
use Rattle.emit.proofs.Moved.is_unmoved.Given as goal

abbrev pub invariant-loop-p : goal.invariant-loop-p
invariant-loop-p l =
    (l.codes ≡ total_to (λ p. get_or l.self.state.now p 0) l.fn.c l.p-index) × (l.codes ≤ 255 * l.p-index)
