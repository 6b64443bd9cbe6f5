-- Searches, a number or a part at a time: what was passed, and what is found. Assumes nothing.
--     none_yet, joined, one_more     where a function has one value
--     here                           the first that passes
--     first_same                     two tests that agree find the same
--     first_lowest, none_lowest      the whole search
--     found_in                       what `find` answers over a range
use Prim.Native.Nat.{ℕ, ◌+◌, ◌≤◌, ◌<◌}
use native.Mathlib.Omega.{arith}
use mathlib.Core.Path.{◌≡◌, sym, ap, ◌∙◌}
use mathlib.Core.Logic.{inl, inr}
use mathlib.Core.Bool.{Bool, true, false}
use Rattle.basics.specs.Lists.{lowest}
use Rattle.basics.proofs.Test.{true_T, lt_or}
use Rattle.basics.proofs.Search.{lowest_is}
use Rattle.basics.proofs.Search as basics
use Rattle.std.proofs.Common.{Option, Some, None, MatchOption}
use Rattle.checks.specs.inner.Search.{Throughout, First, FirstIn}

module _ {A : Type 0} {f : ℕ → A} {v : A} where
  pub none_yet : {a e : ℕ} → e ≤ a → Throughout f v a e
  none_yet h = record { is = λ j l u. absurd (omega arith) }

  pub joined : {a m e : ℕ} → Throughout f v a m → Throughout f v m e → Throughout f v a e
  joined {m = m} w z = record { is = λ j l u. elim (lt_or j m) [ inl i ↦ w.is j l i | inr i ↦ z.is j i u ] }

  pub one_more : {a e : ℕ} → Throughout f v a e → f e ≡ v → Throughout f v a (e + 1)
  one_more w h = joined w (record { is = λ j l u. ap f (omega arith) ∙ h })

  -- the same in a part, or between ends that are spelt otherwise
  pub within : {a b e z : ℕ} → a ≤ b → z ≤ e → Throughout f v a e → Throughout f v b z
  within g h w = record { is = λ j l u. w.is j (omega arith) (omega arith) }

  pub upto : {a e z : ℕ} → z ≤ e → Throughout f v a e → Throughout f v a z
  upto = within (omega arith)

module _ {f : ℕ → Bool} where
  pub here : {a e r : ℕ} → a ≤ r → r < e → f r ≡ true → Throughout f false a r → First f a e r
  here h i t w = record { low = h; high = i; passes = t; before = w }

  -- two tests that agree find the same
  pub first_same : {g : ℕ → Bool} {a e z : ℕ} (r : Option ℕ) → ((j : ℕ) → a ≤ j → j < z → g j ≡ f j) → e ≡ z
      → FirstIn f a e r → FirstIn g a z r
  first_same None s d w = record { is = λ j l u. s j l u ∙ w.is j l (omega arith) }
  first_same (Some p) s d w =
      record {
        low = w.low;
        high = omega (arith, w.high);
        passes = s _ w.low (omega (arith, w.high)) ∙ w.passes;
        before = record { is = λ j l u. s j l (omega (arith, w.high)) ∙ w.before.is j l u };
      }

  -- nothing is passed before a part, and something is found in it
  pub first_lowest : {p e r n : ℕ} → Throughout f false 0 p → First f p e r → e ≤ n → r ≡ lowest f n
  first_lowest {r = r} {n = n} w z i =
      let h = z.high in
      sym (lowest_is f n r (omega arith) (true_T _ z.passes) (λ j u. (joined w z.before).is j (omega arith) u))

  pub none_lowest : {p n : ℕ} → Throughout f false 0 p → n ≤ p → n ≡ lowest f n
  none_lowest {n = n} w h = sym (basics.none_lowest f n (λ j u. w.is j (omega arith) (omega arith)))

-- what `find` answers over a range
pub found_in : (f : ℕ → Bool) (a e : ℕ) (r : Option ℕ)
    → MatchOption r ((k : ℕ) → a ≤ k → k < e → f k ≡ false) (λ i. (a ≤ i) × (i < e) × (f i ≡ true) × ((k : ℕ) → a ≤ k → k < i → f k ≡ false))
    → FirstIn f a e r
found_in f a e None w = record { is = w }
found_in f a e (Some i) w = record { low = w.0; high = w.1; passes = w.2; before = record { is = w.3 } }
