-- F-9, "Band before rim", compared: the signs of samples, which the tests of the rim and of the cut bytes read then, beside labels by a
-- band. Of every sample and band; nothing is assumed.
--
-- `sign_of` and `signs` are F-3's "raw samples" as they stood before F-9, whatever the band. They are also the labels of document 01, before
-- F-3.
--     label_raw, labels_raw   by the band 0 a label is the sign
--     label_sign              outside the band it is the sign, by any band
--     label_was               so a label is what it was when it was defined over signs: F-9 did not change labels
--     sign_plus, plus_sign    a sample is plus by a band exactly if it is above zero and outside it
--     same_opposed            two samples outside a band are opposed exactly if their signs are
use Prim.Native.Nat.{ℕ, ◌<◌}
use native.Mathlib.Omega.{arith}
use mathlib.Core.Path.{◌≡◌, refl, sym, subst, ◌∙◌}
use mathlib.Core.Logic.{inl, inr}
use mathlib.Core.List.{List}
use lib.Dec.{T, eqb, leb}
use lib.IntN.{ℤ, pos, negsuc, nat_abs}
use lib.ListN.{get_or}
use borrow.Author.Tests.{le-leb, lt-leb, eq-eqb, ne_eqb}
use Rattle.std.specs.Prelude.{if◌then◌else◌}
use Rattle.basics.proofs.Test.{lt_or}
use Rattle.moving.specs.declared.Label.{Label}
use Rattle.moving.specs.declared.Label.TheVariants.{Minus, Zero, Plus}
use Rattle.moving.specs.Label.{label_of, labels, is_plus, opposed}
use Rattle.moving.proofs.Band.{label_in_law, label_plus, label_minus, plus_out}

unfoldable pub sign_of : ℤ → Label
sign_of (negsuc n) = Minus
sign_of (pos n) = if eqb n 0 then Zero else Plus

unfoldable pub signs : List ℤ → ℕ → Label
signs samples p = sign_of (get_or samples p (pos 0))

pub label_sign : (band : ℕ) (a : ℤ) → band < nat_abs a → label_of band a ≡ sign_of a
unfolding sign_of
label_sign band (negsuc n) h = label_minus band n h
label_sign band (pos n) h = label_plus band n h ∙ sym (simp (ne_eqb n 0 (λ z. omega arith)))

-- the definition of a label before F-9, over the sign: labels themselves did not change
pub label_was : (band : ℕ) (a : ℤ) → label_of band a ≡ (if leb (nat_abs a) band then Zero else sign_of a)
label_was band a =
    elim (lt_or band (nat_abs a)) [
      | inl l ↦ label_sign band a l ∙ sym (rw (lt-leb (nat_abs a) band l) refl)
      | inr l ↦ label_in_law band a l ∙ sym (rw (le-leb (nat_abs a) band l) refl)
    ]

pub label_raw : (a : ℤ) → label_of 0 a ≡ sign_of a
unfolding sign_of
label_raw (negsuc n) = label_sign 0 (negsuc n) (omega arith)
label_raw (pos n) =
    elim (lt_or 0 n) [
      | inl l ↦ label_sign 0 (pos n) l
      | inr l ↦ label_in_law 0 (pos n) l ∙ sym (simp (eq-eqb n 0 (omega arith)))
    ]

pub labels_raw : (samples : List ℤ) → labels 0 samples ≡ signs samples
unfolding labels signs
labels_raw samples = λ i p. label_raw (get_or samples p (pos 0)) i

module _ (band : ℕ) where
  pub sign_plus : (a : ℤ) → band < nat_abs a → T (is_plus (sign_of a)) → T (is_plus (label_of band a))
  sign_plus a h t = subst (λ (x : Label). T (is_plus x)) (sym (label_sign band a h)) t

  pub plus_sign : (a : ℤ) → T (is_plus (label_of band a)) → T (is_plus (sign_of a))
  plus_sign a t = subst (λ (x : Label). T (is_plus x)) (label_sign band a (plus_out band a t)) t

  pub same_opposed : (a b : ℤ) → band < nat_abs a → band < nat_abs b
      → opposed (label_of band a) (label_of band b) ≡ opposed (sign_of a) (sign_of b)
  same_opposed a b h k = λ i. opposed (label_sign band a h i) (label_sign band b k i)
