-- Lists in parts: what stands in them, at which place, and that nothing stands twice. Assumes nothing.
use Prim.Native.Nat.{ℕ, zero, suc, ◌+◌, ◌-◌, ◌≤◌, ◌<◌}
use native.Mathlib.Omega.{arith}
use native.Mathlib.Nat.{not-suc-le-zero, add-zero}
use native.Mathlib.Numerals.{add-one}
use mathlib.Core.Path.{◌≡◌, refl, sym, ap, ◌∙◌, subst}
use mathlib.Core.Logic.{◌⊎◌, inl, inr}
use mathlib.Core.Bool.{Bool, true, not}
use mathlib.Core.List.{List, [], ◌∷◌, ◌++◌, append-nil, append_assoc}
use lib.Dec.{T, T_not}
use lib.ListN.{length, get_or, length-append, get_or-append}
use lib.Seq.{get_or-append-add}
use Rattle.basics.specs.Lists.{gather, from, below}
use Rattle.basics.proofs.Test.{◌&◌, and_l, and_r, every, every_use, Member, here, there, lt_or}
use Rattle.basics.proofs.Finite.{Finite}
use Rattle.basics.proofs.Tested.{append_l, append_r, same, same_i}

-- a list in which nothing stands twice
pub data NoRepeats {A : Type 0} : List A → Type 0 where
  empty : NoRepeats []
  more : {x : A} {l : List A} → (Member x l → ⊥) → NoRepeats l → NoRepeats (x ∷ l)

module _ {A : Type 0} where
  pub member_length : {a : A} {l : List A} → Member a l → 0 < length l
  member_length here = omega arith
  member_length (there m) = omega arith

  pub append_cases : {a : A} (l : List A) {m : List A} → Member a (l ++ m) → Member a l ⊎ Member a m
  append_cases [] p = inr p
  append_cases (x ∷ l) here = inl here
  append_cases (x ∷ l) (there p) = elim (append_cases l p) [ inl q ↦ inl (there q) | inr q ↦ inr q ]

  append_once : (l m : List A) → NoRepeats l → NoRepeats m → ((a : A) → Member a l → Member a m → ⊥) → NoRepeats (l ++ m)
  append_once [] m p q d = q
  append_once (x ∷ l) m (more n p) q d =
      more {x = x} (λ i. elim (append_cases l {m = m} i) [ inl j ↦ n j | inr j ↦ d x here j ])
      (append_once l m p q (λ a i j. d a (there i) j))

-- a list of elements of a finite type, by a test
module _ {A : Type 0} (F : Finite A) where
  abbrev pub distinct : List A → Bool
  distinct [] = true
  distinct (x ∷ l) = every (λ y. not (same F x y)) l & distinct l

  pub distinct_once : (l : List A) → T (distinct l) → NoRepeats l
  distinct_once [] t = empty
  distinct_once (x ∷ l) t =
      more {x = x} (λ m. T_not (same F x x) (every_use (λ y. not (same F x y)) l (and_l _ _ t) m) (same_i F x x refl))
      (distinct_once l (and_r (every (λ y. not (same F x y)) l) _ t))

-- the numbers below a bound
from_bounds : {k : ℕ} (a n : ℕ) → Member k (from a n) → (a ≤ k) × (k < a + n)
unfolding from
from_bounds {k = k} a zero x' = elim x' [ ]
from_bounds a (suc n) here = (omega arith, omega arith)
from_bounds a (suc n) (there m) = let b = from_bounds (suc a) n m in (omega arith, omega arith)

pub below_lt : {k : ℕ} (n : ℕ) → Member k (below n) → k < n
below_lt n m = omega (arith, from_bounds 0 n m)

from_i : (a n i : ℕ) → i < n → Member (a + i) (from a n)
unfolding from
from_i a zero i h = absurd (not-suc-le-zero h)
from_i a (suc n) zero h = subst (λ (x : ℕ). Member x (a ∷ from (suc a) n)) (omega arith) here
from_i a (suc n) (suc i) h = subst (λ (x : ℕ). Member x (a ∷ from (suc a) n)) (omega arith) (there (from_i (suc a) n i (omega arith)))

pub below_i : (n k : ℕ) → k < n → Member k (below n)
below_i n k h = subst (λ (x : ℕ). Member x (below n)) (omega arith) (from_i 0 n k h)

from_once : (a n : ℕ) → NoRepeats (from a n)
unfolding from
from_once a zero = empty
from_once a (suc n) = more {x = a} (λ m. let b = from_bounds (suc a) n m in omega arith) (from_once (suc a) n)

pub below_once : (n : ℕ) → NoRepeats (below n)
below_once n = from_once 0 n

-- a range and one more, and what is gathered over it
from_more : (a n : ℕ) → from a (suc n) ≡ from a n ++ ((a + n) ∷ [])
unfolding from
from_more a zero = rw (add-zero a) refl
from_more a (suc n) =
    let e : suc a + n ≡ a + suc n = omega arith in
    ap (λ (l : List ℕ). a ∷ l) (from_more (suc a) n ∙ ap (λ (k : ℕ). from (suc a) n ++ (k ∷ [])) e)

pub gather_append : {A : Type 0} (f : A → List ℕ) (l m : List A) → gather f (l ++ m) ≡ gather f l ++ gather f m
unfolding gather
gather_append f [] m = refl
gather_append f (x ∷ l) m = ap (λ (r : List ℕ). f x ++ r) (gather_append f l m) ∙ sym (append_assoc (f x) (gather f l) (gather f m))

module _ (f : ℕ → List ℕ) where
  pub one_more : (k : ℕ) → gather f (below (k + 1)) ≡ gather f (below k) ++ f k
  unfolding gather
  one_more k =
      let e : 0 + k ≡ k = omega arith in
      rw (add-one k) (ap (gather f) (from_more 0 k) ∙ gather_append f (from 0 k) ((0 + k) ∷ []) ∙ rw (e, append-nil (f k)) refl)

-- a range in two parts
pub two_parts : (f : ℕ → List ℕ) (a n : ℕ)
    → gather f (below (a + n)) ≡ gather f (below a) ++ gather (λ j. f (a + j)) (below n)
unfolding gather from
two_parts f a zero = let e : a + 0 ≡ a = omega arith in rw e (sym (append-nil (gather f (below a))))
two_parts f a (suc n) =
    let e : a + suc n ≡ a + n + 1 = omega arith in
    let k : suc n ≡ n + 1 = omega arith in
    let g : ℕ → List ℕ = λ j. f (a + j) in
    ap (λ (m : ℕ). gather f (below m)) e ∙ one_more f (a + n)
    ∙ ap (λ (l : List ℕ). l ++ f (a + n)) (two_parts f a n) ∙ append_assoc (gather f (below a)) (gather g (below n)) (f (a + n))
    ∙ ap (λ (l : List ℕ). gather f (below a) ++ l) (sym (ap (λ (m : ℕ). gather g (below m)) k ∙ one_more g n))

module _ {A B : Type 0} (f : A → List B) where
  pub gather_i : {x : A} {y : B} {l : List A} → Member x l → Member y (f x) → Member y (gather f l)
  unfolding gather
  gather_i {y = y} {l = []} x6 q = elim x6 [ ]
  gather_i {l = x ∷ l} here q = append_l (gather f l) q
  gather_i {l = x ∷ l} (there p) q = append_r (f x) (gather_i p q)

  later : {y : B} {z : A} {l : List A} → (x : A) × Member x l × Member y (f x) → (x : A) × Member x (z ∷ l) × Member y (f x)
  later u = (u.0, there u.1, u.2)

  -- the part in which something stands
  pub gather_part : {y : B} (l : List A) → Member y (gather f l) → (x : A) × Member x l × Member y (f x)
  unfolding gather
  gather_part {y = y} [] m = elim m [ ]
  gather_part (x ∷ l) m = elim (append_cases (f x) m) [ inl q ↦ (x, here, q) | inr q ↦ later (gather_part l q) ]

  -- nothing stands twice if not in the list of parts, not in a part and not in two parts
  pub gather_once : (l : List A) → NoRepeats l → ((x : A) → NoRepeats (f x))
      → ((x z : A) (y : B) → Member y (f x) → Member y (f z) → x ≡ z) → NoRepeats (gather f l)
  unfolding gather
  gather_once [] p q d = empty
  gather_once (x ∷ l) (more n p) q d =
      append_once (f x) (gather f l) (q x) (gather_once l p q d)
      (λ y i j. let u = gather_part l j in n (subst (λ (z : A). Member z l) (sym (d x u.0 y i u.2)) u.1))

  -- the r-th of the part of x stands at place k of the whole
  pub data Found (x : A) (r : ℕ) : List A → ℕ → Type 0 where
    first : {l : List A} {k : ℕ} → r < length (f x) → k ≡ r → Found x r (x ∷ l) k
    after : {z : A} {l : List A} {k j : ℕ} → Found x r l k → j ≡ length (f z) + k → Found x r (z ∷ l) j

  module _ {x : A} {r : ℕ} where
    pub found_member : {l : List A} {k : ℕ} → Found x r l k → Member x l
    found_member (first h e) = here
    found_member (after p e) = there (found_member p)

    pub found_in : {l : List A} {k : ℕ} → Found x r l k → r < length (f x)
    found_in (first h e) = h
    found_in (after p e) = found_in p

    pub found_lt : {l : List A} {k : ℕ} → Found x r l k → k < length (gather f l)
    unfolding gather
    found_lt (first {l = l} h e) = omega (arith, length-append (f x) (gather f l))
    found_lt (after {z = z} {l = l} p e) = omega (arith, length-append (f z) (gather f l), found_lt p)

    pub found_get : (d : B) {l : List A} {k : ℕ} → Found x r l k → get_or (gather f l) k d ≡ get_or (f x) r d
    unfolding gather
    found_get d (first {l = l} h e) = rw e (get_or-append (f x) (gather f l) d r h)
    found_get d (after {z = z} {l = l} {k = k} p e) = rw e (get_or-append-add (f z) (gather f l) k d ∙ found_get d p)

    pub found_at : {l : List A} → Member x l → r < length (f x) → (k : ℕ) × Found x r l k
    found_at here h = (r, first h refl)
    found_at {l = z ∷ l} (there m) h = let u = found_at m h in (length (f z) + u.0, after u.1 refl)

  find_step : (z : A) (l : List A) (j : ℕ) → j < length (f z ++ gather f l)
      → ((k : ℕ) → k < length (gather f l) → (x : A) × (r : ℕ) × Found x r l k)
      → (j < length (f z)) ⊎ (length (f z) ≤ j) → (x : A) × (r : ℕ) × Found x r (z ∷ l) j
  find_step z l j h rec (inl p) = (z, j, first p refl)
  find_step z l j h rec (inr p) =
      let u = rec (j - length (f z)) (omega (arith, length-append (f z) (gather f l))) in
      (u.0, u.1, after {z = z} {j = j} u.2 (omega arith))

  pub find : (l : List A) (j : ℕ) → j < length (gather f l) → (x : A) × (r : ℕ) × Found x r l j
  unfolding gather
  find [] j h = absurd (not-suc-le-zero h)
  find (z ∷ l) j h = find_step z l j h (find l) (lt_or j (length (f z)))

  -- a place has one part and one place in it, and they have one place if nothing stands twice
  pub found_same : {x z : A} {r s : ℕ} {l : List A} {k : ℕ} → Found x r l k → Found z s l k → (x ≡ z) × (r ≡ s)
  found_same (first h e) (first g d) = (refl, omega arith)
  found_same (first h e) (after q d) = absurd (omega arith)
  found_same (after p e) (first g d) = absurd (omega arith)
  found_same {z = y} {s = s} (after {l = l} {k = k} p e) (after {k = j} q d) =
      let i : j ≡ k = omega arith in
      found_same p (subst (λ (i : ℕ). Found y s l i) i q)

  found_at_once : {x y : A} {r s : ℕ} {l : List A} {k j : ℕ} → NoRepeats l → x ≡ y → r ≡ s → Found x r l k → Found y s l j → k ≡ j
  found_at_once o p q (first h e) (first g d) = omega (arith, q)
  found_at_once (more n o) p q (first h e) (after {l = l} v d) =
      absurd (n (subst (λ (a : A). Member a l) (sym p) (found_member v)))
  found_at_once (more n o) p q (after {l = l} v e) (first g d) =
      absurd (n (subst (λ (a : A). Member a l) p (found_member v)))
  found_at_once (more n o) p q (after v e) (after w d) = let i = found_at_once o p q v w in omega arith

  pub found_once : {x : A} {r : ℕ} {l : List A} {k j : ℕ} → NoRepeats l → Found x r l k → Found x r l j → k ≡ j
  found_once o p q = found_at_once o refl refl p q
