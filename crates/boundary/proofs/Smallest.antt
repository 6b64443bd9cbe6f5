-- The smallest value over a list. Assumes nothing.
--     smallest_snoc     with one more at the end it is the lesser of that one's value and what it was
--     smallest_is       it is the value of one of the list
--     smallest_least    no value of the list is below it
use native.Mathlib.Omega.{arith}
use mathlib.Core.Path.{◌≡◌, refl}
use mathlib.Core.Bool.{Bool, true, false}
use mathlib.Core.List.{List, [], ◌∷◌, ◌++◌}
use lib.Dec.{T, le→leb, ltb→lt}
use lib.IntN.{ℤ, pos, negsuc}
use lib.Signed.{lt_z, le_z, ◌<ℤ◌, lt_z_yes, le_z_yes, lt_z_no, <ℤ-≤ℤ_trans, <ℤ_irrefl}
use Rattle.std.specs.Prelude.{if◌then◌else◌}
use Rattle.basics.proofs.Test.{Member, here, there, true_T, F-false}
use Rattle.boundary.specs.Sum.{least_from, smallest}

abbrev pub lesser : ℤ → ℤ → ℤ
lesser z m = if lt_z z m then z else m

at_most : (a b : ℤ) → T (lt_z a b) → T (le_z a b)
at_most (pos a) (pos b) t = le→leb a b (omega (arith, ltb→lt a b t))
at_most (pos a) (negsuc b) t = t
at_most (negsuc a) (pos b) t = tt
at_most (negsuc a) (negsuc b) t = le→leb b a (omega (arith, ltb→lt b a t))

-- what is below the lesser of two is below both
below_both : (a m : ℤ) {z : ℤ} → z <ℤ lesser a m → (z <ℤ a) × (z <ℤ m)
below_both a m {z} = either (lt_z a m) refl
  where
    either : (b : Bool) → lt_z a m ≡ b → z <ℤ (if b then a else m) → (z <ℤ a) × (z <ℤ m)
    either true e h = (h, <ℤ-≤ℤ_trans h (le_z_yes (at_most a m (true_T (lt_z a m) e))))
    either false e h = (<ℤ-≤ℤ_trans h (lt_z_no (rw e tt)), h)

-- what holds of both holds of the one that is chosen
chosen : (P : ℤ → Type 0) (b : Bool) {z m : ℤ} → P z → P m → P (if b then z else m)
chosen P true p q = p
chosen P false p q = q

module _ {A : Type 0} (g : A → ℤ) where
  least_snoc : (m : ℤ) (l : List A) (x : A) → least_from g m (l ++ (x ∷ [])) ≡ lesser (g x) (least_from g m l)
  unfolding least_from
  least_snoc m [] x = refl
  least_snoc m (y ∷ l) x = least_snoc (lesser (g y) m) l x

  pub smallest_snoc : (l : List A) (x y : A)
      → smallest g ((y ∷ l) ++ (x ∷ [])) ≡ (if lt_z (g x) (smallest g (y ∷ l)) then g x else smallest g (y ∷ l))
  unfolding smallest
  smallest_snoc l x y = least_snoc (g y) l x

  -- k is the whole list, w the one whose value is the least so far, l what is left
  least_is : (k : List A) (w : A) (l : List A) → Member w k → ((y : A) → Member y l → Member y k)
      → (y : A) × Member y k × (least_from g (g w) l ≡ g y)
  unfolding least_from
  least_is k w [] p h = (w, p, refl)
  least_is k w (x ∷ l) p h =
      let rest : (y : A) → Member y l → Member y k = λ y m. h y (there m) in
      chosen (λ z. (y : A) × Member y k × (least_from g z l ≡ g y)) (lt_z (g x) (g w))
      (least_is k x l (h x here) rest) (least_is k w l p rest)

  pub smallest_is : (x : A) (l : List A) → (y : A) × Member y (x ∷ l) × (smallest g (x ∷ l) ≡ g y)
  unfolding smallest
  smallest_is x l = least_is (x ∷ l) x l here (λ y m. there m)

  below_first : {z : ℤ} (m : ℤ) (l : List A) → z <ℤ least_from g m l → z <ℤ m
  unfolding least_from
  below_first m [] h = h
  below_first m (x ∷ l) h = (below_both (g x) m (below_first (lesser (g x) m) l h)).1

  below_rest : {z : ℤ} {y : A} (m : ℤ) {l : List A} → Member y l → z <ℤ least_from g m l → z <ℤ g y
  unfolding least_from
  below_rest m {l = []} p h = elim p [ ]
  below_rest m {l = x ∷ l} here h = (below_both (g x) m (below_first (lesser (g x) m) l h)).0
  below_rest m {l = x ∷ l} (there p) h = below_rest (lesser (g x) m) p h

  pub smallest_least : (l : List A) (y : A) → Member y l → lt_z (g y) (smallest g l) ≡ false
  unfolding smallest
  smallest_least [] y p = elim p [ ]
  smallest_least (x ∷ l) y here = F-false _ (λ t. <ℤ_irrefl (below_first (g x) l (lt_z_yes t)))
  smallest_least (x ∷ l) y (there p) = F-false _ (λ t. <ℤ_irrefl (below_rest (g x) p (lt_z_yes t)))
