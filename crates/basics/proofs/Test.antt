-- Boolean tests that antt computes, and what a passed test says. Assumes nothing.
use mathlib.Core.Path.{◌≡◌, refl, sym, subst, ◌∙◌}
use mathlib.Core.Logic.{◌⊎◌, inl, inr}
use mathlib.Core.Bool.{Bool, true, false, not, ◌||◌, ◌&&◌, beq}
use mathlib.Core.List.{List, [], ◌∷◌}
use Prim.Native.Nat.{ℕ, zero, suc, ◌+◌, ◌≤◌, ◌<◌}
use native.Mathlib.Omega.{arith}
use lib.Dec.{T, eqb, eqb_refl, eqb→eq}
use Rattle.basics.specs.Lists.{from, below}

-- a conjunction that stays shut outside computed tests, so that a `_` in a proof is solved
infixr 35 ◌&◌
unfoldable pub ◌&◌ : Bool → Bool → Bool
true & b = b
false & b = false

pub and_l : (a b : Bool) → T (a & b) → T a
unfolding ◌&◌
and_l true b t = tt
and_l false b t = t

pub and_r : (a b : Bool) → T (a & b) → T b
unfolding ◌&◌
and_r true b t = t
and_r false b t = absurd t

pub and_i : (a b : Bool) → T a → T b → T (a & b)
unfolding ◌&◌
and_i true b p q = q
and_i false b p q = p

-- the library's conjunction
pub &&-l : (a b : Bool) → T (a && b) → T a
&&-l true b t = tt
&&-l false b t = t

pub &&-r : (a b : Bool) → T (a && b) → T b
&&-r true b t = t
&&-r false b t = absurd t

pub &&-i : (a b : Bool) → T a → T b → T (a && b)
&&-i true b p q = q
&&-i false b p q = p

pub or_cases : (a b : Bool) → T (a || b) → T a ⊎ T b
or_cases true b t = inl tt
or_cases false b t = inr t

pub or_l : (a b : Bool) → T a → T (a || b)
or_l true b t = tt
or_l false b t = absurd t

pub or_r : (a b : Bool) → T b → T (a || b)
or_r true b t = tt
or_r false b t = t

-- a test that says `if a then b`
abbrev pub imp : Bool → Bool → Bool
imp true b = b
imp false b = true

pub imp_use : (a b : Bool) → T (imp a b) → T a → T b
imp_use true b t p = t
imp_use false b t p = absurd p

-- a test as an equation, and back
pub T_true : (b : Bool) → T b → b ≡ true
T_true true t = refl
T_true false t = absurd t

pub F-false : (b : Bool) → (T b → ⊥) → b ≡ false
F-false true t = absurd (t tt)
F-false false t = refl

pub true_T : (b : Bool) → b ≡ true → T b
true_T b e = subst T (sym e) tt

pub false_F : (b : Bool) → b ≡ false → T b → ⊥
false_F b e t = subst T e t

pub decide : (b : Bool) → T b ⊎ T (not b)
decide true = inl tt
decide false = inr tt

pub beq_use : (a b : Bool) → T (beq a b) → a ≡ b
beq_use true true t = refl
beq_use true false t = absurd t
beq_use false true t = absurd t
beq_use false false t = refl

pub eqb_of : (a b : ℕ) → a ≡ b → T (eqb a b)
eqb_of a b e = subst (λ (x : ℕ). T (eqb a x)) e (eqb_refl a)

-- what stands in a list
pub data Member {A : Type 0} (a : A) : List A → Type 0 where
  here : {l : List A} → Member a (a ∷ l)
  there : {b : A} {l : List A} → Member a l → Member a (b ∷ l)

-- every one of a list passes; some one does
module _ {A : Type 0} where
  abbrev pub every : (A → Bool) → List A → Bool
  every f [] = true
  every f (x ∷ xs) = f x & every f xs

  pub every_use : (f : A → Bool) (l : List A) → T (every f l) → {a : A} → Member a l → T (f a)
  every_use f [] t {a = a} x'' = elim x'' [ ]
  every_use f (x ∷ xs) t here = and_l (f x) (every f xs) t
  every_use f (x ∷ xs) t (there m) = every_use f xs (and_r (f x) (every f xs) t) m

  pub every_i : (f : A → Bool) (l : List A) → ((a : A) → Member a l → T (f a)) → T (every f l)
  every_i f [] h = tt
  every_i f (x ∷ xs) h = and_i (f x) (every f xs) (h x here) (every_i f xs (λ a m. h a (there m)))

  abbrev pub any : (A → Bool) → List A → Bool
  any f [] = false
  any f (x ∷ xs) = f x || any f xs

  pub any_use : (f : A → Bool) (l : List A) → T (any f l) → (a : A) × T (f a)
  any_use f [] t = absurd t
  any_use f (x ∷ xs) t = elim (or_cases (f x) (any f xs) t) [ inl p ↦ (x, p) | inr q ↦ any_use f xs q ]

-- the numbers below a bound
from_step : (a n k : ℕ) → a ≤ k → (suc a ≤ k → Member k (from (suc a) n)) → (b : Bool) → eqb a k ≡ b → Member k (a ∷ from (suc a) n)
from_step a n k l rec true e = subst (λ (x : ℕ). Member k (x ∷ from (suc a) n)) (sym (eqb→eq a k (true_T (eqb a k) e))) here
from_step a n k l rec false e = there (rec (omega (arith, ne)))
  where
    ne : a ≡ k → ⊥
    ne p = false_F (eqb a k) e (eqb_of a k p)

pub from_member : (a n k : ℕ) → a ≤ k → k < a + n → Member k (from a n)
unfolding from
from_member a zero k l h = absurd (omega arith)
from_member a (suc n) k l h = from_step a n k l (λ m. from_member (suc a) n k m (omega arith)) (eqb a k) refl

pub below_use : (f : ℕ → Bool) (n : ℕ) → T (every f (below n)) → (k : ℕ) → k < n → T (f k)
below_use f n t k h = every_use f (below n) t (from_member 0 n k (omega arith) (omega arith))

pub lt_or : (a b : ℕ) → (a < b) ⊎ (b ≤ a)
lt_or zero zero = inr (omega arith)
lt_or zero (suc b) = inl (omega arith)
lt_or (suc a) zero = inr (omega arith)
lt_or (suc a) (suc b) = elim (lt_or a b) [ inl h ↦ inl (omega (arith, h)) | inr h ↦ inr (omega (arith, h)) ]

-- three tests made one after the other, each with its result: all of them, or any of them
pub record All₃ (e a b c : Bool) : Type 0 where
  pub is : e ≡ (a && (b && c))

pub record Any₃ (e a b c : Bool) : Type 0 where
  pub is : e ≡ (a || (b || c))

module _ {e a b c ra rb rc : Bool} where
  pub all_three : All₃ e a b c → ra ≡ a → ra ≡ true → rb ≡ b → rb ≡ true → rc ≡ c → rc ≡ e
  all_three w p t q u r = r ∙ sym (w.is ∙ (λ i. (sym p ∙ t) i && ((sym q ∙ u) i && c)))

  pub none_before : Any₃ e a b c → ra ≡ a → ra ≡ false → rb ≡ b → rb ≡ false → rc ≡ c → rc ≡ e
  none_before w p t q u r = r ∙ sym (w.is ∙ (λ i. (sym p ∙ t) i || ((sym q ∙ u) i || c)))

module _ {e a b c ra rb : Bool} where
  pub second_fails : All₃ e a b c → ra ≡ a → ra ≡ true → rb ≡ b → rb ≡ false → false ≡ e
  second_fails w p t q u = sym (w.is ∙ (λ i. (sym p ∙ t) i && ((sym q ∙ u) i && c)))

  pub second_holds : Any₃ e a b c → ra ≡ a → ra ≡ false → rb ≡ b → rb ≡ true → true ≡ e
  second_holds w p t q u = sym (w.is ∙ (λ i. (sym p ∙ t) i || ((sym q ∙ u) i || c)))

module _ {e a b c ra : Bool} where
  pub first_fails : All₃ e a b c → ra ≡ a → ra ≡ false → false ≡ e
  first_fails w p t = sym (w.is ∙ (λ i. (sym p ∙ t) i && (b && c)))

  pub first_holds : Any₃ e a b c → ra ≡ a → ra ≡ true → true ≡ e
  first_holds w p t = sym (w.is ∙ (λ i. (sym p ∙ t) i || (b || c)))
