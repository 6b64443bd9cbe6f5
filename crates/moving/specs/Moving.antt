-- Document 01, "Moving points", with the choice of document 02, F-2, and the mark of F-8: which points move, and by which code.
use Rattle.std.specs.Prelude.{ℕ, List, map, if◌then◌else◌}
use Rattle.basics.specs.Lists.{below}
use Rattle.lattice.specs.Counts.{points}
use Rattle.moving.specs.declared.Label.{Label}
use Rattle.moving.specs.Label.{is_zero}
use Rattle.moving.specs.State.{skin_mark}
use Rattle.moving.specs.Nearest.{nearest}
use Rattle.moving.specs.Reading.{Reading, violation_by}
use Rattle.moving.specs.Order.{move_by}

-- F-8: "a point with label zero from the start .. Its state byte is to be 15"; any other begins with 0
unfoldable pub mark_of : Label → ℕ
mark_of l = if is_zero l then skin_mark else 0

module _ (m : Reading) where
  -- F-2: "From now on a point moves to the violating live cut nearest to it": codes 1 to 14, or 0 if none violates it
  unfoldable pub choice : List ℕ → ℕ → ℕ
  choice codes p = nearest (violation_by m codes p)

  -- the table at the outset, before any point moves
  unfoldable pub outset : List ℕ
  outset = map (λ p. mark_of (m.label p)) (below (points m.sizes))

  -- "Points are taken once each, in ascending number": when the first n have had their turns
  unfoldable pub state_at : ℕ → List ℕ
  state_at n = move_by choice (below n) outset

  -- "The state table, N bytes, holds this code, or 0 for a point that did not move"; F-8: or 15 where the label is
  -- zero from the start
  abbrev pub state_of : List ℕ
  state_of = state_at (points m.sizes)
