-- Computed tests over finite types and over pairs from them, equality tests among them, and what a passed test says. Assumes nothing.
use Prim.Native.Nat.{ℕ, suc}
use mathlib.Core.Path.{◌≡◌, refl, sym, ◌∙◌, ap, subst}
use mathlib.Core.Logic.{inl, inr}
use mathlib.Core.Bool.{Bool, true, false}
use mathlib.Core.List.{List, [], ◌∷◌, ◌++◌, map}
use lib.Dec.{T, eqb, eqb→eq, eqb_refl}
use lib.ListN.{get_or}
use Rattle.std.specs.Prelude.{if◌then◌else◌}
use Rattle.basics.proofs.Test.{Member, here, there, any, or_cases, or_l, or_r, T_true, true_T}
use Rattle.basics.proofs.Finite.{Finite, each, each_use}

-- a test that every element passes, as a record, so that the test is inferred where the fact is used
pub record Tested {A : Type 0} (F : Finite A) (f : A → Bool) : Type 0 where
  pub passed : T (each F f)

pub tested : {A : Type 0} {F : Finite A} {f : A → Bool} → Tested F f → (a : A) → T (f a)
tested {F = F} {f = f} t a = each_use F f t.passed a

pub any_i : {A : Type 0} (f : A → Bool) {a : A} {l : List A} → Member a l → T (f a) → T (any f l)
any_i {A = A} f {a = a} {l = []} x5 t = elim x5 [ ]
any_i f {l = x ∷ xs} here t = or_l (f x) (any f xs) t
any_i f {l = x ∷ xs} (there m) t = or_r (f x) (any f xs) (any_i f m t)

-- the one that passes, with its place
pub any_find : {A : Type 0} (f : A → Bool) (l : List A) → T (any f l) → (a : A) × Member a l × T (f a)
any_find f [] t = absurd t
any_find f (x ∷ xs) t = elim (or_cases (f x) (any f xs) t) [ inl p ↦ (x, here, p) | inr q ↦ later (any_find f xs q) ]
  where
    later : (a : _) × Member a xs × T (f a) → (a : _) × Member a (x ∷ xs) × T (f a)
    later u = (u.0, there u.1, u.2)

-- those of a list that pass
module _ {A : Type 0} (f : A → Bool) where
  unfoldable pub keep : List A → List A
  keep [] = []
  keep (x ∷ xs) = if f x then x ∷ keep xs else keep xs

  keep_step : {a : A} (x : A) {xs : List A} (b : Bool) → Member a xs → Member a (if b then x ∷ xs else xs)
  keep_step x true m = there m
  keep_step x false m = m

  pub keep_i : {a : A} {l : List A} → Member a l → T (f a) → Member a (keep l)
  unfolding keep
  keep_i {a = a} here t = rw (T_true (f a) t) here
  keep_i {l = x ∷ xs} (there m) t = keep_step x (f x) (keep_i m t)

  kept_step : {a x : A} {xs : List A} (l : List A) → (Member a xs → Member a l × T (f a)) → (b : Bool) → f x ≡ b
      → Member a (if b then x ∷ xs else xs) → Member a (x ∷ l) × T (f a)
  kept_step {x = x} l h true e here = (here, true_T (f x) e)
  kept_step l h true e (there p) = let r = h p in (there r.0, r.1)
  kept_step l h false e p = let r = h p in (there r.0, r.1)

  pub kept : {a : A} (l : List A) → Member a (keep l) → Member a l × T (f a)
  unfolding keep
  kept {a = a} [] m = elim m [ ]
  kept (x ∷ xs) m = kept_step xs (kept xs) (f x) refl m

-- the two truth values
abbrev pub the_bools : Finite Bool
the_bools = record { all = true ∷ false ∷ []; complete = complete }
  where
    complete : (b : Bool) → Member b (true ∷ false ∷ [])
    complete true = here
    complete false = there here

-- pairs
module _ {A : Type 0} where
  pub append_l : {a : A} {l : List A} (m : List A) → Member a l → Member a (l ++ m)
  append_l m here = here
  append_l m (there p) = there (append_l m p)

  pub append_r : {a : A} (l : List A) {m : List A} → Member a m → Member a (l ++ m)
  append_r [] p = p
  append_r (x ∷ l) p = there (append_r l p)

pub map_member : {A B : Type 0} (f : A → B) {a : A} {l : List A} → Member a l → Member (f a) (map f l)
map_member f here = here
map_member f (there p) = there (map_member f p)

module _ {A B : Type 0} where
  abbrev pub pairs : List A → List B → List (A × B)
  pairs [] m = []
  pairs (x ∷ l) m = map (λ y. (x, y)) m ++ pairs l m

  pub pairs_member : {a : A} {b : B} {l : List A} {m : List B} → Member a l → Member b m → Member (a, b) (pairs l m)
  pairs_member {a = a} {b = b} {l = []} {m = m} x5 q = elim x5 [ ]
  pairs_member {a = a} {l = x ∷ xs} {m = m} here q = append_l (pairs xs m) (map_member (λ (y : B). (a, y)) q)
  pairs_member {l = x ∷ xs} {m = m} (there p) q = append_r (map (λ (y : B). (x, y)) m) (pairs_member p q)

infixr 30 ◌⊗◌
abbrev pub ◌⊗◌ : {A B : Type 0} → Finite A → Finite B → Finite (A × B)
F ⊗ G = record { all = pairs F.all G.all; complete = λ c. pairs_member (F.complete c.0) (G.complete c.1) }

-- equality of elements of a finite type, by their places in its list
module _ {A : Type 0} where
  abbrev pub place_in : {a : A} {l : List A} → Member a l → ℕ
  place_in here = 0
  place_in (there m) = suc (place_in m)

  pub at_place : {a : A} {l : List A} (m : Member a l) (d : A) → get_or l (place_in m) d ≡ a
  at_place here d = refl
  at_place (there m) d = at_place m d

module _ {A : Type 0} (F : Finite A) where
  abbrev pub same : A → A → Bool
  same a b = eqb (place_in (F.complete a)) (place_in (F.complete b))

  pub same_use : (a b : A) → T (same a b) → a ≡ b
  same_use a b t =
      sym (at_place (F.complete a) a) ∙ ap (λ (n : ℕ). get_or F.all n a) (eqb→eq _ _ t) ∙ at_place (F.complete b) a

  pub same_i : (a b : A) → a ≡ b → T (same a b)
  same_i a b e = subst (λ (x : A). T (same a x)) e (eqb_refl (place_in (F.complete a)))
