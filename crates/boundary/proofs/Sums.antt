-- Sums over lists. Assumes nothing.
--     sum_same, sum_zero, sum_one        term by term; of nothing; of a single term
--     sum_add, sum_append, sum_snoc      of two sums; of a list in two parts, and with one more at the end
--     sum_map, sum_gather                of a mapped list, and of a list in many parts
--     sum_antisymmetric                  a double sum whose terms change sign with their two places is zero
use native.Mathlib.Omega.{arith}
use mathlib.Core.Path.{◌≡◌, refl, sym, ◌∙◌, ap, ap₂, subst}
use mathlib.Core.List.{List, [], ◌∷◌, ◌++◌, map}
use lib.IntN.{ℤ, pos, ◌+ℤ◌, neg_ℤ, +ℤ_idl, +ℤ_idr, +ℤ_assoc, neg_ℤ-+ℤ}
use Rattle.basics.specs.Lists.{gather}
use Rattle.basics.proofs.Test.{Member, here, there}
use Rattle.basics.proofs.Gather.{NoRepeats, empty, more}
use Rattle.basics.proofs.Integer.{above, beneath, nat, int, minus, ◌⊕◌, ring}
use Rattle.boundary.specs.Sum.{sum}

pub plus : {a b c d : ℤ} → a ≡ c → b ≡ d → a +ℤ b ≡ c +ℤ d
plus p q = ap₂ (λ (x y : ℤ). x +ℤ y) p q

then : (a : ℤ) {b c : ℤ} → b ≡ c → a +ℤ b ≡ a +ℤ c
then a p = ap (λ (x : ℤ). a +ℤ x) p

module _ {A : Type 0} where
  pub sum_same : (g h : A → ℤ) (l : List A) → ((x : A) → Member x l → g x ≡ h x) → sum g l ≡ sum h l
  unfolding sum
  sum_same g h [] e = refl
  sum_same g h (x ∷ l) e = plus (e x here) (sum_same g h l (λ y m. e y (there m)))

  pub sum_zero : (g : A → ℤ) (l : List A) → ((x : A) → Member x l → g x ≡ pos 0) → sum g l ≡ pos 0
  unfolding sum
  sum_zero g [] e = refl
  sum_zero g (x ∷ l) e = plus (e x here) (sum_zero g l (λ y m. e y (there m)))

  -- all terms but one are zero
  pub sum_one : (g : A → ℤ) {a : A} {l : List A} → NoRepeats l → Member a l
      → ((y : A) → Member y l → (y ≡ a → ⊥) → g y ≡ pos 0) → sum g l ≡ g a
  unfolding sum
  sum_one g empty m e = elim m [ ]
  sum_one g {a = a} (more {l = l} n p) here e =
      then (g a) (sum_zero g l (λ y m. e y (there m) (λ q. n (subst (λ (x : A). Member x l) q m)))) ∙ +ℤ_idr (g a)
  sum_one g {a = a} (more {x = x} {l = l} n p) (there m) e =
      plus (e x here (λ q. n (subst (λ (z : A). Member z l) (sym q) m))) (sum_one g p m (λ y k. e y (there k)))
      ∙ +ℤ_idl (g a)

  pub sum_add : (g h : A → ℤ) (l : List A) → sum (λ x. g x +ℤ h x) l ≡ sum g l +ℤ sum h l
  unfolding sum
  sum_add g h [] = refl
  sum_add g h (x ∷ l) =
      let a = int (g x) in
      let b = int (h x) in
      let c = int (sum g l) in
      let d = int (sum h l) in
      then (g x +ℤ h x) (sum_add g h l) ∙ ring (a ⊕ b ⊕ (c ⊕ d)) (a ⊕ c ⊕ (b ⊕ d)) (omega arith)

  sum_neg : (g : A → ℤ) (l : List A) → sum (λ x. neg_ℤ (g x)) l ≡ neg_ℤ (sum g l)
  unfolding sum
  sum_neg g [] = refl
  sum_neg g (x ∷ l) = then (neg_ℤ (g x)) (sum_neg g l) ∙ sym (neg_ℤ-+ℤ (g x) (sum g l))

  sum_append : (g : A → ℤ) (l m : List A) → sum g (l ++ m) ≡ sum g l +ℤ sum g m
  unfolding sum
  sum_append g [] m = sym (+ℤ_idl (sum g m))
  sum_append g (x ∷ l) m = then (g x) (sum_append g l m) ∙ sym (+ℤ_assoc (g x) (sum g l) (sum g m))

  pub sum_snoc : (g : A → ℤ) (l : List A) (x : A) → sum g (l ++ (x ∷ [])) ≡ sum g l +ℤ g x
  unfolding sum
  sum_snoc g l x = sum_append g l (x ∷ []) ∙ then (sum g l) (+ℤ_idr (g x))

module _ {A B : Type 0} where
  pub sum_map : (g : B → ℤ) (f : A → B) (l : List A) → sum g (map f l) ≡ sum (λ x. g (f x)) l
  unfolding sum
  sum_map g f [] = refl
  sum_map g f (x ∷ l) = then (g (f x)) (sum_map g f l)

  pub sum_gather : (g : B → ℤ) (f : A → List B) (l : List A) → sum g (gather f l) ≡ sum (λ x. sum g (f x)) l
  unfolding sum gather
  sum_gather g f [] = refl
  sum_gather g f (x ∷ l) = sum_append g (f x) (gather f l) ∙ then (sum g (f x)) (sum_gather g f l)

  -- the order of summation exchanged
  sum_swap : (g : A → B → ℤ) (l : List A) (m : List B)
      → sum (λ x. sum (g x) m) l ≡ sum (λ y. sum (λ x. g x y) l) m
  unfolding sum
  sum_swap g [] m = sym (sum_zero (λ y. pos 0) m (λ y k. refl))
  sum_swap g (x ∷ l) m = then (sum (g x) m) (sum_swap g l m) ∙ sym (sum_add (g x) (λ y. sum (λ x. g x y) l) m)

own_negative : (z : ℤ) → z ≡ neg_ℤ z → z ≡ pos 0
own_negative z e = ring (int z) (nat 0) (omega (arith, ap above e, ap beneath e, (minus (int z)).is))

pub sum_antisymmetric : {A : Type 0} (h : A → A → ℤ) (l : List A) → ((x y : A) → h x y ≡ neg_ℤ (h y x))
    → sum (λ x. sum (h x) l) l ≡ pos 0
sum_antisymmetric {A} h l odd = own_negative (sum whole l) (sum_swap h l l ∙ each ∙ sum_neg whole l)
  where
    whole : A → ℤ
    whole x = sum (h x) l

    each : sum (λ y. sum (λ x. h x y) l) l ≡ sum (λ y. neg_ℤ (whole y)) l
    each =
        sum_same (λ y. sum (λ x. h x y) l) (λ y. neg_ℤ (whole y)) l
        (λ y m. sum_same (λ x. h x y) (λ x. neg_ℤ (h y x)) l (λ x k. odd x y) ∙ sum_neg (h y) l)
