-- Labels by a band (document 02, F-3). Assumes nothing.
--     label_in_law, label_plus, label_minus   a label is zero if the sample's size is at most the band; any other is the sign
--     natural_or, negative_or             of a sample from zero on, and of one below
--     zero_in, plus_out, opposed_out      what a label says of its sample, and what it says of two that they are opposed
--     in_band_rests                       a point in the band never moves: it has the mark
--     fits_banded, banded_fits            the test of the band
use Prim.Native.Nat.{ℕ, suc, ◌≤◌, ◌<◌}
use native.Mathlib.Omega.{arith}
use mathlib.Core.Path.{◌≡◌, subst}
use mathlib.Core.Logic.{◌⊎◌, inl, inr}
use mathlib.Core.Bool.{true}
use lib.Dec.{T}
use lib.IntN.{ℤ, pos, negsuc, nat_abs}
use lib.ListN.{get_or}
use borrow.Author.Tests.{le-leb, lt-leb, leb-true, le-ltb}
use Rattle.basics.proofs.Test.{lt_or}
use Rattle.lattice.specs.Counts.{points}
use Rattle.moving.specs.declared.Label.{Label}
use Rattle.moving.specs.declared.Label.TheVariants.{Minus, Zero, Plus}
use Rattle.moving.specs.Label.{label_of, labels, band_most, band_fits, is_plus, is_minus, opposed}
use Rattle.moving.specs.State.{skin_mark}
use Rattle.moving.specs.Block.{Block, reading_of}
use Rattle.moving.specs.Moving.{state_of}
use Rattle.moving.proofs.Moved.{state_reached, reached_rests}

module _ (band : ℕ) where
  pub label_in_law : (a : ℤ) → nat_abs a ≤ band → label_of band a ≡ Zero
  unfolding label_of
  label_in_law a h = simp (le-leb (nat_abs a) band h)

  pub label_plus : (n : ℕ) → band < n → label_of band (pos n) ≡ Plus
  unfolding label_of
  label_plus n h = simp (lt-leb n band h, le-ltb n 0 (omega arith))

  pub label_minus : (n : ℕ) → band < suc n → label_of band (negsuc n) ≡ Minus
  unfolding label_of
  label_minus n h = simp (lt-leb (suc n) band h)

  pub natural_or : (n : ℕ) → (label_of band (pos n) ≡ Zero) ⊎ (label_of band (pos n) ≡ Plus)
  natural_or n = elim (lt_or band n) [ inl l ↦ inr (label_plus n l) | inr l ↦ inl (label_in_law (pos n) l) ]

  pub negative_or : (n : ℕ) → (label_of band (negsuc n) ≡ Zero) ⊎ (label_of band (negsuc n) ≡ Minus)
  negative_or n = elim (lt_or band (suc n)) [ inl l ↦ inr (label_minus n l) | inr l ↦ inl (label_in_law (negsuc n) l) ]

  pub zero_in : (a : ℤ) → label_of band a ≡ Zero → nat_abs a ≤ band
  zero_in a e = elim (lt_or band (nat_abs a)) [ inl l ↦ absurd (out a l e) | inr l ↦ l ]
    where
      out : (a : ℤ) → band < nat_abs a → label_of band a ≡ Zero → ⊥
      out (pos n) l e =
          let is = label_plus n l in
          let z : ◌≡◌ {A = ℕ} 0 1 = cc in
          omega arith
      out (negsuc n) l e =
          let is = label_minus n l in
          let z : ◌≡◌ {A = ℕ} 0 1 = cc in
          omega arith

  pub plus_out : (a : ℤ) → T (is_plus (label_of band a)) → band < nat_abs a
  unfolding is_plus
  plus_out a t =
      elim (lt_or band (nat_abs a)) [ inl l ↦ l | inr l ↦ absurd (subst (λ (x : Label). T (is_plus x)) (label_in_law a l) t) ]

  -- neither of two opposed samples is in the band
  pub opposed_out : (a b : ℤ) → T (opposed (label_of band a) (label_of band b)) → (band < nat_abs a) × (band < nat_abs b)
  unfolding opposed is_plus is_minus
  opposed_out a b t = (
    elim (lt_or band (nat_abs a)) [
      | inl l ↦ l
      | inr l ↦ absurd (subst (λ (x : Label). T (opposed x (label_of band b))) (label_in_law a l) t)
    ],
    elim (lt_or band (nat_abs b)) [
      | inl l ↦ l
      | inr l ↦ absurd (none (label_of band a) (subst (λ (x : Label). T (opposed (label_of band a) x)) (label_in_law b l) t))
    ],
  )
    where
      none : (x : Label) → T (opposed x Zero) → ⊥
      none Minus t = t
      none Zero t = t
      none Plus t = t

-- whatever moves were made, and so by the papers' rules
pub in_band_rests : (band : ℕ) (b : Block) (p : ℕ) → p < points b.sizes → nat_abs (get_or b.samples p (pos 0)) ≤ band
    → get_or (state_of (reading_of band b)) p 0 ≡ skin_mark
unfolding labels
in_band_rests band b p l h =
    let m = reading_of band b in
    reached_rests m (state_reached m) p l (label_in_law band (get_or b.samples p (pos 0)) h)

pub fits_banded : (band : ℕ) → band_fits band ≡ true → band ≤ band_most
unfolding band_fits
fits_banded band e = leb-true band band_most e

pub banded_fits : (band : ℕ) → band ≤ band_most → band_fits band ≡ true
unfolding band_fits
banded_fits band h = le-leb band band_most h
