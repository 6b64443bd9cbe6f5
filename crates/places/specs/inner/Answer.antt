-- The place call in the parts that the code has: among tables of the right lengths, what it answers for a point and for a cut.
-- That these are `locate` of crates/filling is shown in proofs/Answers.antt.
--     answer_of, Answerable     the answer for what was found, and what a place that was found is
--     moved_answer, point_answer, cut_answer     what is found for a moved point, for any point, and for a cut
use Rattle.std.specs.Prelude.{ℕ, ◌/◌, ◌%◌, List, get_or, if◌then◌else◌, Option, Some, None, Result, Ok, Err}
use Rattle.lattice.specs.declared.Sizes.{Sizes}
use Rattle.lattice.specs.Edge.{edge_byte}
use Rattle.moving.specs.Violation.{rule1, violates}
use Rattle.geometry.specs.Place.{cut_place, moved_place, point_place}
use Rattle.filling.specs.declared.Placed.{Placed}
use Rattle.filling.specs.Located.{placed, unplaced, believable, stands}
use Rattle.refusals.specs.declared.Refusal.{Refusal}
use Rattle.refusals.specs.inner.Numbers.{refusal_number}
use Rattle.triple.specs.declared.Place.{Place}
use Rattle.triple.specs.inner.Places.{place_at, InBox, Nonnegative, place_box}

abbrev pub answer_of : Result Place Refusal → Placed
answer_of (Ok p) = placed (place_at p)
answer_of (Err r) = unplaced (refusal_number r)

-- its coordinates are small, and none is below 0
pub record Answerable (p : Place) : Type 0 where
  pub in_box : InBox place_box p
  pub nonnegative : Nonnegative p

-- the point p with a code that leads to a far end or to nothing
unfoldable pub moved_answer : Sizes → List ℕ → ℕ → ℕ → Option ℕ → Placed
moved_answer s cuts p c None = unplaced 9
moved_answer s cuts p c (Some q) =
    if violates rule1 c (get_or cuts (edge_byte p c q) 0) then placed (moved_place s cuts p c (Some q)) else unplaced 9

unfoldable pub point_answer : Sizes → List ℕ → List ℕ → ℕ → Placed
point_answer s cuts state p = if believable s cuts state p then placed (point_place s cuts state p) else unplaced 9

-- the cut of the byte at offset o
unfoldable pub cut_answer : Sizes → List ℕ → List ℕ → ℕ → Placed
cut_answer s cuts state o = if stands s cuts state o then placed (cut_place s cuts (o / 7) (o % 7)) else unplaced 8
