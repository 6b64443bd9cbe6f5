-- Lists in parts, and searches below a bound.
use Rattle.std.specs.Prelude.{ℕ, zero, suc, ◌+◌, Bool, List, [], ◌∷◌, ◌++◌, if◌then◌else◌}

-- the lists f x of all x of a list, one after the other
module _ {A B : Type 0} (f : A → List B) where
  unfoldable pub gather : List A → List B
  gather [] = []
  gather (x ∷ xs) = f x ++ gather xs

-- n numbers from a on; the numbers below n
unfoldable pub from : ℕ → ℕ → List ℕ
from a zero = []
from a (suc n) = a ∷ from (suc a) n

abbrev pub below : ℕ → List ℕ
below n = from 0 n

module _ (f : ℕ → Bool) where
  -- the first of n numbers from k on that passes, or else the number after them
  unfoldable pub first_from : ℕ → ℕ → ℕ
  first_from zero k = k
  first_from (suc n) k = let r = first_from n (k + 1) in if f k then k else r

  -- the lowest number below n that passes, or n
  abbrev pub lowest : ℕ → ℕ
  lowest n = first_from n 0

  -- how many numbers below n pass
  unfoldable pub count : ℕ → ℕ
  count zero = 0
  count (suc n) = count n + (if f n then 1 else 0)
