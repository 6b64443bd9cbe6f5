-- Document 01, "Calls and refusals", and document 02's F-8: what the place call answers, for every input.
use Rattle.std.specs.Prelude.{ℕ, ◌*◌, ◌-◌, ◌/◌, ◌%◌, Bool, true, false, not, ◌&&◌, List, [], ◌∷◌, nat_abs, get_or, ltb, leb, eqb, if◌then◌else◌}
use Rattle.std.specs.Prelude.{Option, Some, None}
use Rattle.lattice.specs.declared.Sizes.{Sizes}
use Rattle.lattice.specs.Axis.{along_x, along_y, along_z}
use Rattle.lattice.specs.Counts.{points}
use Rattle.lattice.specs.Direction.{as_start}
use Rattle.lattice.specs.Edge.{neighbour, byte_at, edge_byte}
use Rattle.moving.specs.Violation.{rule1, violates}
use Rattle.moving.specs.State.{is_move, no_move, says_zero}
use Rattle.geometry.specs.Place.{Place, place_of}
use Rattle.filling.specs.declared.Placed.{Placed}
use Rattle.filling.specs.Refusal.{Refusal, first_of, wrong_sizes, wrong_cuts, wrong_state, wrong_id}

-- an answer with a place: no coordinate of a place is below 0
abbrev pub placed : Place → Placed
placed p = record { number = 0; x = nat_abs (p along_x); y = nat_abs (p along_y); z = nat_abs (p along_z) }

-- "a refusal's place is (0,0,0)"
abbrev pub unplaced : ℕ → Placed
unplaced n = record { number = n; x = 0; y = 0; z = 0 }

module _ (s : Sizes) (cuts state : List ℕ) where
  -- the edge by code c exists, and its byte is a cut that violates p
  unfoldable pub reaches : ℕ → ℕ → Option ℕ → Bool
  reaches p c None = false
  reaches p c (Some q) = violates rule1 c (get_or cuts (edge_byte p c q) 0)

  -- "9: .. its edge does not exist, has byte 0 or does not violate the point"; F-8: "Code 15 is believable, so 9 begins above 15"
  unfoldable pub believable : ℕ → Bool
  believable p =
      let c = get_or state p 0 in
      if no_move c then true else is_move c && reaches p c (neighbour s p c)

  -- "8: .. its edge does not exist, has byte 0, or has an end with a non-zero state byte"; F-8: "A cut with an end coded 15 is refused by 8"
  unfoldable pub stands_to : ℕ → ℕ → Option ℕ → Bool
  stands_to p d None = false
  stands_to p d (Some q) =
      not (eqb (get_or cuts (byte_at p d) 0) 0)
      && (not (says_zero (get_or state p 0)) && not (says_zero (get_or state q 0)))

  unfoldable pub stands : ℕ → Bool
  stands o = stands_to (o / 7) (o % 7) (neighbour s (o / 7) (as_start (o % 7)))

  -- the number of the refusal of an id among well-sized tables, or 0. "8: the id is 8N or more, or its edge does not exist .."
  unfoldable pub id_fault : ℕ → ℕ
  id_fault id =
      if ltb id (points s) then (if believable id then 0 else 9)
      else if leb (8 * points s) id then 8
      else if stands (id - points s) then 0
      else 8

  -- "Place of an id reads sizes, cuts and state: 1, 3, 4, 8, 9"
  abbrev pub locate_order : ℕ → List Refusal
  locate_order id = wrong_sizes s ∷ wrong_cuts s cuts ∷ wrong_state s state ∷ wrong_id (id_fault id) ∷ []

  unfoldable pub locate : ℕ → Placed
  locate id = first_of (λ n at. unplaced n) (locate_order id) (placed (place_of s cuts state id))
