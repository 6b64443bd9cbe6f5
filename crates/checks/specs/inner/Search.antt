-- Searches among numbers, as the code answers them.
--     Throughout     a function has one value from a on and before e
--     First, FirstIn   the first of these numbers that passes, if any does
use Rattle.std.specs.Prelude.{ℕ, ◌≤◌, ◌<◌, ◌≡◌, Bool, true, false, Option, MatchOption}

pub record Throughout {A : Type 0} (f : ℕ → A) (v : A) (a e : ℕ) : Type 0 where
  pub is : (j : ℕ) → a ≤ j → j < e → f j ≡ v

pub record First (f : ℕ → Bool) (a e r : ℕ) : Type 0 where
  pub low : a ≤ r
  pub high : r < e
  pub passes : f r ≡ true
  pub before : Throughout f false a r

abbrev pub FirstIn : (ℕ → Bool) → ℕ → ℕ → Option ℕ → Type 0
FirstIn f a e r = MatchOption r (Throughout f false a e) (First f a e)
