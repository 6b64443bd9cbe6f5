-- What is read from a mapped list and from a range, and lists in parts that are the same part by part. Assumes nothing.
use Prim.Native.Nat.{ℕ, zero, suc, ◌+◌, ◌<◌}
use native.Mathlib.Omega.{arith}
use mathlib.Core.Path.{◌≡◌, refl, sym, ap, ap₂, ◌∙◌}
use mathlib.Core.List.{List, [], ◌∷◌, ◌++◌, map}
use lib.ListN.{length, get_or, length-map}
use lib.Seq.{ext_get_or}
use Rattle.basics.specs.Lists.{gather, from, below}
use Rattle.basics.proofs.Test.{Member, here, there}

module _ {A B : Type 0} where
  -- read within the list, whatever the answers beyond it are
  pub map_at : (f : A → B) (l : List A) (n : ℕ) (d : A) (e : B) → n < length l → get_or (map f l) n e ≡ f (get_or l n d)
  map_at f [] n d e h = absurd (omega arith)
  map_at f (x ∷ l) zero d e h = refl
  map_at f (x ∷ l) (suc n) d e h = map_at f l n d e (omega arith)

  pub gather_same : (f g : A → List B) (l : List A) → ((x : A) → Member x l → f x ≡ g x) → gather f l ≡ gather g l
  unfolding gather
  gather_same f g [] h = refl
  gather_same f g (x ∷ l) h = ap₂ (λ (a b : List B). a ++ b) (h x here) (gather_same f g l (λ y m. h y (there m)))

pub from_length : (a n : ℕ) → length (from a n) ≡ n
unfolding from
from_length a zero = refl
from_length a (suc n) = ap suc (from_length (suc a) n)

pub from_at : (a n i : ℕ) → i < n → get_or (from a n) i 0 ≡ a + i
unfolding from
from_at a zero i h = absurd (omega arith)
from_at a (suc n) zero h = omega arith
from_at a (suc n) (suc i) h = from_at (suc a) n i (omega arith) ∙ omega arith

-- a list is what its first n entries are read as
pub read_all : {A : Type 0} (f : ℕ → A) (l : List A) (n : ℕ) (d : A) → length l ≡ n → ((i : ℕ) → i < length l → f i ≡ get_or l i d)
    → map f (below n) ≡ l
read_all f l n d e h = ext_get_or d (map f (below n)) l (long ∙ sym e) (λ i u. at i (omega (arith, long)) ∙ h i (omega (arith, long)))
  where
    at : (i : ℕ) → i < n → get_or (map f (below n)) i d ≡ f i
    at i u = map_at f (below n) i 0 d (omega (arith, from_length 0 n)) ∙ ap f (from_at 0 n i u ∙ omega arith)

    long : length (map f (below n)) ≡ n
    long = length-map (below n) f ∙ from_length 0 n
