-- The triple product is linear in each of its vectors and changes sign when two of them change places. Assumes nothing.
use mathlib.Core.Path.{◌≡◌, refl, sym, ◌∙◌, ap, subst}
use Prim.Native.Nat.{ℕ, zero, suc}
use native.Mathlib.Omega.{arith}
use lib.IntN.{ℤ, pos, negsuc, ◌+ℤ◌, ◌*ℤ◌, neg_ℤ}
use Rattle.basics.proofs.Integer.{above, nat, int, ◌⊕◌, ◌⊖◌, ◌⊗◌, ring, sums}
use Rattle.lattice.specs.Axis.{Axis}
use Rattle.geometry.specs.Place.{Place}
use Rattle.geometry.specs.Volume.{difference, cross, dot, triple, six_volume}

-- three vectors turned round in a cycle; the last two exchanged
pub turn : (u v w : Place) → triple u v w ≡ triple v w u
unfolding triple dot cross
turn u v w = simp sums

pub swap : (u v w : Place) → triple u w v ≡ neg_ℤ (triple u v w)
unfolding triple dot cross
swap u v w = simp sums

pub volume_swap : (a b c d : Place) → six_volume a b d c ≡ neg_ℤ (six_volume a b c d)
unfolding six_volume
volume_swap a b c d = swap (difference a b) (difference a c) (difference a d)

-- linear: it takes a combination to the same combination; k on the left spares a division
abbrev pub Linear : (Place → ℤ) → Type 0
Linear g =
    (p q r : Place) (m n k : ℕ)
    → ((a : Axis) → pos k *ℤ p a ≡ pos m *ℤ q a +ℤ pos n *ℤ r a)
    → pos k *ℤ g p ≡ pos m *ℤ g q +ℤ pos n *ℤ g r

dot_scaled : (k : ℤ) (p u : Place) → k *ℤ dot p u ≡ dot (λ a. k *ℤ p a) u
unfolding dot
dot_scaled k p u = simp sums

dot_sum : (m n : ℤ) (q r u : Place) → dot (λ a. m *ℤ q a +ℤ n *ℤ r a) u ≡ m *ℤ dot q u +ℤ n *ℤ dot r u
unfolding dot
dot_sum m n q r u = simp sums

pub linear_first : (v w : Place) → Linear (λ p. triple p v w)
unfolding triple
linear_first v w p q r m n k e =
    dot_scaled (pos k) p (cross v w) ∙ (λ i. dot (λ a. e a i) (cross v w)) ∙ dot_sum (pos m) (pos n) q r (cross v w)

pub linear_second : (u w : Place) → Linear (λ p. triple u p w)
linear_second u w = subst (λ (g : Place → ℤ). Linear g) (λ i p. sym (turn u p w) i) (linear_first w u)

pub linear_third : (u v : Place) → Linear (λ p. triple u v p)
linear_third u v = subst (λ (g : Place → ℤ). Linear g) (λ i p. turn p u v i) (linear_first u v)

-- where it vanishes: at the zero vector, and where two vectors are the same
pub null : (g : Place → ℤ) → Linear g → (p : Place) → g (difference p p) ≡ pos 0
null g linear p =
    ring (int (g o)) (nat 1 ⊗ int (g o)) (omega arith)
    ∙ linear o o o 0 0 1 (λ a. ring (nat 1 ⊗ (int (p a) ⊖ int (p a))) (nat 0 ⊗ int (o a) ⊕ nat 0 ⊗ int (o a)) (omega arith))
    ∙ ring (nat 0 ⊗ int (g o) ⊕ nat 0 ⊗ int (g o)) (nat 0) (omega arith)
  where
    o : Place
    o = difference p p

own_negative : (x : ℤ) → x ≡ neg_ℤ x → x ≡ pos 0
own_negative (pos zero) e = refl
own_negative (pos (suc n)) e = absurd (omega (arith, ap above e))
own_negative (negsuc n) e = absurd (omega (arith, ap above e))

pub twice_last : (u v : Place) → triple u v v ≡ pos 0
twice_last u v = own_negative (triple u v v) (swap u v v)

pub twice_first : (u v : Place) → triple u u v ≡ pos 0
twice_first u v = sym (turn v u u) ∙ twice_last v u

pub twice_outer : (u v : Place) → triple u v u ≡ pos 0
twice_outer u v = turn u v u ∙ twice_last v u
