-- What the tests of a point compute and say. By the bytes alone it is decided that a point stays; that it moves, only with a cut that is live.
use Rattle.std.specs.Prelude.{ℕ, ◌+◌, ◌*◌, ◌-◌, ◌≤◌, ◌<◌, ◌≡◌, Bool, false, not, ◌&&◌, if◌then◌else◌, List, map, get_or, Option, Some, None}
use Rattle.basics.specs.Lists.{below}
use Rattle.lattice.specs.declared.Sizes.{Sizes}
use Rattle.lattice.specs.declared.Site.{Site}
use Rattle.lattice.specs.Direction.{Code}
use Rattle.lattice.specs.Edge.{near, neighbour, edge_byte}
use Rattle.lattice.specs.inner.Site.{index}
use Rattle.moving.specs.declared.Label.{Label}
use Rattle.moving.specs.Violation.{rule1, violation}
use Rattle.moving.specs.State.{says_zero}
use Rattle.moving.specs.Reading.{live}
use Rattle.moving.specs.Moving.{mark_of}

-- the edge from p to this neighbour exists, and its cut is live
unfoldable pub live_along : (ℕ → Label) → List ℕ → ℕ → Option ℕ → Bool
live_along label codes p None = false
live_along label codes p (Some q) = live label codes p q

-- the same by the state bytes alone: neither of them says that its label is zero
unfoldable pub unfaded : List ℕ → ℕ → ℕ → Bool
unfaded codes p q = not (says_zero (get_or codes p 0)) && not (says_zero (get_or codes q 0))

unfoldable pub open_along : List ℕ → ℕ → Option ℕ → Bool
open_along codes p None = false
open_along codes p (Some q) = unfaded codes p q

-- the table at the outset of the first n points
unfoldable pub outset_of : (ℕ → Label) → ℕ → List ℕ
outset_of label n = map (λ p. mark_of (label p)) (below n)

-- where the bytes of a point's fourteen edges stand, by code, each if its edge exists
pub record Offsets (s : Sizes) (q : Site) (at : List ℕ) : Type 0 where
  pub byte : (c : ℕ) → Code c → (e : ℕ) → near s q.kind (index q) c ≡ Some e → get_or at (c - 1) 0 ≡ edge_byte q.own c e

-- how the bytes at these offsets violate, by code, whatever the labels
unfoldable pub by_byte : List ℕ → List ℕ → ℕ → Option ℕ
by_byte cuts at c = violation rule1 c (get_or cuts (get_or at (c - 1) 0) 0)

-- the same of the codes that are taken alone
unfoldable pub byte_if : (ℕ → Bool) → List ℕ → List ℕ → ℕ → Option ℕ
byte_if taken cuts at c = if taken c then by_byte cuts at c else None

-- no cut on the edges that start at the m + 1 points from one on
pub record Uncut (cuts : List ℕ) (from m : ℕ) : Type 0 where
  pub none : (p : ℕ) → from ≤ p → p ≤ from + m → (d : ℕ) → d < 7 → get_or cuts (7 * p + d) 0 ≡ 0

-- no cut on any edge of a point: whatever the labels, nothing violates it
pub record Bare (s : Sizes) (cuts : List ℕ) (p : ℕ) : Type 0 where
  pub none : (c : ℕ) → Code c → (q : ℕ) → neighbour s p c ≡ Some q → get_or cuts (edge_byte p c q) 0 ≡ 0
