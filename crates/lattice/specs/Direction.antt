-- Document 01, "The block" and "Moving points": the seven directions and the fourteen codes.
use Rattle.std.specs.Prelude.{ℕ, ◌+◌, ◌-◌, ◌%◌, ◌≤◌, Bool, List, [], ◌∷◌, get_or, ltb, leb, if◌then◌else◌}
use Rattle.lattice.specs.Axis.{Axis, xyz}

-- a step along an axis in doubled coordinates: so much up, so much down
pub record Step : Type 0 where
  pub up : ℕ
  pub down : ℕ

abbrev pub +2 : Step
+2 = record { up = 2; down = 0 }

abbrev pub +1 : Step
+1 = record { up = 1; down = 0 }

abbrev pub ±0 : Step
±0 = record { up = 0; down = 0 }

abbrev pub -1 : Step
-1 = record { up = 0; down = 1 }

-- "A point has seven directions: 0 (+2,0,0), 1 (0,+2,0), 2 (0,0,+2), 3 (+1,+1,+1), 4 (-1,+1,+1), 5 (+1,-1,+1), 6 (-1,-1,+1)"
unfoldable pub directions : List (Axis → Step)
directions =
    xyz +2 ±0 ±0
    ∷ xyz ±0 +2 ±0
    ∷ xyz ±0 ±0 +2
    ∷ xyz +1 +1 +1
    ∷ xyz -1 +1 +1
    ∷ xyz +1 -1 +1
    ∷ xyz -1 -1 +1
    ∷ []

unfoldable pub direction : ℕ → Axis → Step
direction d = get_or directions d (xyz ±0 ±0 ±0)

-- "Directions 0 to 2 are long edges, 3 to 6 short ones"
unfoldable pub long : ℕ → Bool
long d = ltb d 3

-- "Code 1 to 7: the point is the start, in direction 0 to 6. Code 8 to 14: it is the end of direction 0 to 6"
pub record Code (c : ℕ) : Type 0 where
  pub low : 1 ≤ c
  pub high : c ≤ 14

abbrev pub as_start : ℕ → ℕ
as_start d = d + 1

abbrev pub as_end : ℕ → ℕ
as_end d = d + 8

unfoldable pub is_start : ℕ → Bool
is_start c = leb c 7

-- a code is at least 1, so `c - 1` cuts nothing off
unfoldable pub direction_of : ℕ → ℕ
direction_of c = (c - 1) % 7

abbrev pub reversed : Step → Step
reversed t = record { up = t.down; down = t.up }

-- where a code leads
unfoldable pub step : ℕ → Axis → Step
step c a = if is_start c then direction (direction_of c) a else reversed (direction (direction_of c) a)

-- the code of the same edge at its other end
unfoldable pub opposite : ℕ → ℕ
opposite c = if is_start c then c + 7 else c - 7
