-- What a search below a bound finds, and what counting counts. Assumes nothing.
use Prim.Native.Nat.{ℕ, zero, suc, ◌+◌, ◌-◌, ◌≤◌, ◌<◌}
use native.Mathlib.Omega.{arith}
use mathlib.Core.Path.{◌≡◌, refl, sym, ap, ◌∙◌}
use mathlib.Core.Logic.{inl, inr}
use mathlib.Core.Bool.{Bool, true, false}
use lib.Dec.{T}
use Rattle.std.specs.Prelude.{if◌then◌else◌}
use Rattle.basics.specs.Lists.{first_from, lowest, count}
use Rattle.basics.proofs.Test.{true_T, false_F, lt_or}

-- r is the first of the n numbers from k on that passes, or the number after them
pub record First (f : ℕ → Bool) (n k r : ℕ) : Type 0 where
  pub low : k ≤ r
  pub high : r ≤ k + n
  pub passes : r < k + n → T (f r)
  pub fails : (j : ℕ) → k ≤ j → j < r → f j ≡ false

module _ (f : ℕ → Bool) where
  first_step : (n k r : ℕ) (b : Bool) → f k ≡ b → First f n (k + 1) r → First f (suc n) k (if b then k else r)
  first_step n k r true e h =
      record { low = omega arith; high = omega arith; passes = λ l. true_T (f k) e; fails = λ j l u. absurd (omega arith) }
  first_step n k r false e h =
      record {
        low = omega (arith, h.low);
        high = omega (arith, h.high);
        passes = λ l. h.passes (omega arith);
        fails = λ j l u. elim (lt_or k j) [ inl m ↦ h.fails j (omega arith) u | inr m ↦ ap f (omega arith) ∙ e ];
      }

  pub first_found : (n k : ℕ) → First f n k (first_from f n k)
  unfolding first_from
  first_found zero k =
      record { low = omega arith; high = omega arith; passes = λ l. absurd (omega arith); fails = λ j l u. absurd (omega arith) }
  first_found (suc n) k = first_step n k (first_from f n (k + 1)) (f k) refl (first_found n (k + 1))

  pub lowest_le : (n : ℕ) → lowest f n ≤ n
  lowest_le n = omega (arith, (first_found n 0).high)

  pub lowest_passes : (n : ℕ) → lowest f n < n → T (f (lowest f n))
  lowest_passes n h = (first_found n 0).passes (omega arith)

  pub lowest_fails : (n j : ℕ) → j < lowest f n → f j ≡ false
  lowest_fails n j h = (first_found n 0).fails j (omega arith) h

  -- a search that finds nothing, and a search where there is nothing
  pub lowest_none : (n : ℕ) → n ≤ lowest f n → (j : ℕ) → j < n → f j ≡ false
  lowest_none n h j l = lowest_fails n j (omega arith)

  pub none_lowest : (n : ℕ) → ((j : ℕ) → j < n → f j ≡ false) → lowest f n ≡ n
  none_lowest n h =
      elim (lt_or (lowest f n) n) [
        | inl l ↦ absurd (false_F (f (lowest f n)) (h (lowest f n) l) (lowest_passes n l))
        | inr l ↦ omega (arith, lowest_le n)
      ]

  -- the only number that passes with none below it
  pub lowest_is : (n j : ℕ) → j < n → T (f j) → ((i : ℕ) → i < j → f i ≡ false) → lowest f n ≡ j
  lowest_is n j l t h =
      elim (lt_or (lowest f n) j) [
        | inl m ↦ absurd (false_F (f (lowest f n)) (h (lowest f n) m) (lowest_passes n (omega arith)))
        | inr m ↦ elim (lt_or j (lowest f n)) [ inl u ↦ absurd (false_F (f j) (lowest_fails n j u) t) | inr u ↦ omega arith ]
      ]

  -- counting
  one_le : (b : Bool) → (if b then 1 else 0) ≤ 1
  one_le true = omega arith
  one_le false = omega arith

  pub count_le : (n : ℕ) → count f n ≤ n
  unfolding count
  count_le zero = omega arith
  count_le (suc n) = omega (arith, count_le n, one_le (f n))

  pub count_none : (n : ℕ) → ((j : ℕ) → j < n → f j ≡ false) → count f n ≡ 0
  unfolding count
  count_none zero h = refl
  count_none (suc n) h = rw (h n (omega arith)) (omega (arith, count_none n (λ j l. h j (omega arith))))

-- a search and a count ask only of the numbers below the bound
module _ (f g : ℕ → Bool) where
  pub count_same : (n : ℕ) → ((j : ℕ) → j < n → f j ≡ g j) → count f n ≡ count g n
  unfolding count
  count_same zero h = refl
  count_same (suc n) h = rw (h n (omega arith), count_same n (λ j l. h j (omega arith))) refl

-- a count in two parts
pub count_parts : (f : ℕ → Bool) (a n : ℕ) → count (λ j. f (a + j)) n + count f a ≡ count f (a + n)
unfolding count
count_parts f a zero = rw (add_zero a) (omega arith)
  where
    add_zero : (a : ℕ) → a + 0 ≡ a
    add_zero a = omega arith
count_parts f a (suc n) = omega (arith, count_parts f a n, ap (count f) (next a n))
  where
    next : (a n : ℕ) → a + suc n ≡ suc (a + n)
    next a n = omega arith

-- two tests that agree from a on count alike from there on
pub count_rest : (f g : ℕ → Bool) (a e : ℕ) → a ≤ e → ((j : ℕ) → a ≤ j → j < e → f j ≡ g j)
    → count f e + count g a ≡ count g e + count f a
count_rest f g a e l h = rw (sym (whole a e l)) (omega (arith, count_parts f a (e - a), count_parts g a (e - a), same))
  where
    whole : (a e : ℕ) → a ≤ e → a + (e - a) ≡ e
    whole a e l = omega arith

    same : count (λ j. f (a + j)) (e - a) ≡ count (λ j. g (a + j)) (e - a)
    same = count_same (λ j. f (a + j)) (λ j. g (a + j)) (e - a) (λ j u. h (a + j) (omega arith) (omega arith))
