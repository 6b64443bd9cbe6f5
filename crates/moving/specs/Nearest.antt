-- Document 02, F-2: "a point moves to the violating live cut nearest to it .. a tie goes to the lower code". What violates by each code
-- is an argument.
use Rattle.std.specs.Prelude.{ℕ, zero, suc, Bool, true, false, ltb, if◌then◌else◌, Option, Some, None}
use Rattle.moving.specs.State.{is_move}

-- the one is nearer than the other; anything is nearer than none
unfoldable pub nearer : Option ℕ → Option ℕ → Bool
nearer None w = false
nearer (Some d) None = true
nearer (Some d) (Some e) = ltb d e

module _ (by : ℕ → Option ℕ) where
  -- the violation by a code that is a move; none by any other
  abbrev pub by_code : ℕ → Option ℕ
  by_code c = if is_move c then by c else None

  -- of the codes 1 to n the nearest that violates, or 0: a higher code is taken only if it is nearer than all lower ones
  unfoldable pub nearest_to : ℕ → ℕ
  nearest_to zero = 0
  nearest_to (suc n) = let c = nearest_to n in if nearer (by (suc n)) (by_code c) then suc n else c

  -- of all fourteen
  abbrev pub nearest : ℕ
  nearest = nearest_to 14
