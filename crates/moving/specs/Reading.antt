-- What moving reads, and the labels and violations at any time of it. Rules and orders are stated over this.
--     Reading                       sizes, labels at the outset, cut bytes, a rule
--     label_after, live              labels while points move
--     cut_along                      the cut byte of an edge
--     violation_along, violation_by   how a live cut violates a point
use Rattle.std.specs.Prelude.{ℕ, Bool, not, ◌&&◌, List, get_or, if◌then◌else◌, Option, Some, None}
use Rattle.lattice.specs.declared.Sizes.{Sizes}
use Rattle.lattice.specs.Edge.{neighbour, edge_byte}
use Rattle.moving.specs.declared.Label.{Label}
use Rattle.moving.specs.declared.Label.TheVariants.{Zero}
use Rattle.moving.specs.Label.{is_zero}
use Rattle.moving.specs.Violation.{Rule, violation}
use Rattle.moving.specs.State.{says_zero}

pub record Reading : Type 0 where
  pub sizes : Sizes
  pub label : ℕ → Label
  pub cuts : List ℕ
  pub rule : Rule

-- the label of a point when the state bytes are `codes`: zero where its byte says so, which it does where "its label becomes zero", it
-- having moved, and where it is zero from the start
unfoldable pub label_after : (ℕ → Label) → List ℕ → ℕ → Label
label_after label codes p = if says_zero (get_or codes p 0) then Zero else label p

-- "A cut is live while both its ends have non-zero labels"
unfoldable pub live : (ℕ → Label) → List ℕ → ℕ → ℕ → Bool
live label codes p q = not (is_zero (label_after label codes p)) && not (is_zero (label_after label codes q))

module _ (m : Reading) where
  -- the byte of the cut on the edge that leads from p by a code to q
  abbrev pub cut_along : ℕ → ℕ → ℕ → ℕ
  cut_along p c q = get_or m.cuts (edge_byte p c q) 0

  -- how the cut on the edge by code c, to this neighbour, violates p: not at all unless it is live
  unfoldable pub violation_along : List ℕ → ℕ → ℕ → Option ℕ → Option ℕ
  violation_along codes p c None = None
  violation_along codes p c (Some q) = if live m.label codes p q then violation m.rule c (cut_along p c q) else None

  abbrev pub violation_by : List ℕ → ℕ → ℕ → Option ℕ
  violation_by codes p c = violation_along codes p c (neighbour m.sizes p c)
