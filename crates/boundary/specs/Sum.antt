-- Document 02, F-7: values over a list.
--     sum                    the values added up
--     how_many                how many of a list pass a test
--     least_from, smallest    the least value
use Rattle.std.specs.Prelude.{ℕ, ◌+◌, Bool, List, [], ◌∷◌, ℤ, pos, ◌+ℤ◌, if◌then◌else◌}
use Rattle.std.specs.Int.Signed.{lt_z}

module _ {A : Type 0} where
  unfoldable pub sum : (A → ℤ) → List A → ℤ
  sum g [] = pos 0
  sum g (x ∷ l) = g x +ℤ sum g l

  unfoldable pub how_many : (A → Bool) → List A → ℕ
  how_many f [] = 0
  how_many f (x ∷ l) = (if f x then 1 else 0) + how_many f l

  -- the least of m and the values of a list
  unfoldable pub least_from : (A → ℤ) → ℤ → List A → ℤ
  least_from g m [] = m
  least_from g m (x ∷ l) = least_from g (if lt_z (g x) m then g x else m) l

  -- "the smallest six-volume, 0 if there are no rows"
  unfoldable pub smallest : (A → ℤ) → List A → ℤ
  smallest g [] = pos 0
  smallest g (x ∷ l) = least_from g (g x) l
