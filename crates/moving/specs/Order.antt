-- Moving along an order: points take their turns one after the other. What a point chooses at its turn is an argument.
use Rattle.std.specs.Prelude.{ℕ, List, [], ◌∷◌, set, if◌then◌else◌}
use Rattle.moving.specs.State.{is_move}

-- p's state byte becomes c if this is a move: a point that does not move keeps its byte
unfoldable pub move_to : List ℕ → ℕ → ℕ → List ℕ
move_to codes p c = if is_move c then set codes p c else codes

-- `pick codes p` is the code by which p moves when the state bytes are `codes`, or 0
module _ (pick : List ℕ → ℕ → ℕ) where
  unfoldable pub turn : List ℕ → ℕ → List ℕ
  turn codes p = move_to codes p (pick codes p)

  unfoldable pub move_by : List ℕ → List ℕ → List ℕ
  move_by [] codes = codes
  move_by (p ∷ order) codes = move_by order (turn codes p)
