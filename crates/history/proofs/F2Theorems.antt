-- F-2, "Move to the nearest cut", compared: the state table by document 01's choice, the first code that violates, beside today's. Of every
-- reading; nothing is assumed.
--
-- `state_before` is today's moving with document 01's choice in the place of the nearest cut. It begins with today's outset, so it has F-8's
-- mark, and its labels may be by a band: it is not the table that stood before F-2, but the one that would stand today without F-2.
--     same_points        the same points move
--     same_byte_or_two   "State tables .. change only where two or more cuts violate one point at its turn"
--     before_reached     this table too was reached by moves to cuts that violate
-- Places and M are in F2Places, rows in F2Rows.
use Prim.Native.Nat.{ℕ}
use native.Mathlib.Omega.{arith}
use mathlib.Core.Path.{◌≡◌}
use mathlib.Core.Logic.{◌⊎◌}
use mathlib.Core.List.{List}
use lib.ListN.{get_or}
use Rattle.basics.specs.Lists.{below}
use Rattle.basics.proofs.Gather.{below_lt, below_i}
use Rattle.lattice.specs.Counts.{points}
use Rattle.moving.specs.Reading.{Reading}
use Rattle.moving.specs.Order.{move_by}
use Rattle.moving.specs.Moving.{outset, state_at, state_of}
use Rattle.moving.proofs.Settled.{Reached}
use Rattle.moving.proofs.Taking.{order_settles}
use Rattle.moving.proofs.Choice.{choice_chooser}
use Rattle.moving.proofs.Moved.{outset_long}
use Rattle.history.proofs.F2First.{first_choice, first_chooser}
use Rattle.history.proofs.F2SamePoints.{SameMoved, TwoViolate, same_moved, same_byte}

module _ (m : Reading) where
  -- the state table by document 01's choice, with F-8's mark
  unfoldable pub state_before : List ℕ
  state_before = move_by (first_choice m) (below (points m.sizes)) (outset m)

  pub same_points : SameMoved state_before (state_of m)
  unfolding state_before state_at
  same_points = same_moved (first_chooser m) (choice_chooser m) (outset m) (outset_long m) (points m.sizes) (omega arith)

  pub same_byte_or_two : (p : ℕ) → (get_or state_before p 0 ≡ get_or (state_of m) p 0) ⊎ TwoViolate m (state_at m p) p
  unfolding state_before state_at
  same_byte_or_two p = same_byte (first_chooser m) (choice_chooser m) (outset m) (outset_long m) (points m.sizes) p (omega arith)

  -- it too was reached by moves to cuts that violate
  pub before_reached : Reached m (outset m) state_before
  unfolding state_before
  before_reached =
      (order_settles (below (points m.sizes)) (first_chooser m) (outset_long m)
      (λ p i. below_lt (points m.sizes) i) (λ p h. below_i (points m.sizes) p h)).reached
