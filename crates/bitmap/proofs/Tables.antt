-- Laws of a table of bits.
--     word_bit                a bit by its word and its place there
--     past, blank             no bit is set past the table, or in one of zeros
--     all_clear               no bit is set if every word is 0
--     marking, set_adds       a bit set in its word is set in the table, and the others stay
-- Assumes nothing.
use Prim.Native.Nat.{ℕ, zero, ◌+◌, ◌*◌, ◌/◌, ◌%◌, ◌^◌, ◌≤◌, ◌<◌}
use native.Mathlib.Omega.{arith}
use mathlib.Core.Path.{◌≡◌, refl, sym, ap, ap₂, ◌∙◌}
use mathlib.Core.Logic.{inl, inr}
use mathlib.Core.Bool.{Bool, true, false, ◌||◌}
use mathlib.Core.List.{List}
use lib.Dec.{eqb}
use lib.ListN.{length, get_or, set, replicate, get_or-eq_default}
use lib.ListN.{length-set, length-replicate, get_or-replicate}
use lib.Seq.{get_or-set_same, get_or-set_other}
use lib.Bits.{bit_or}
use borrow.Author.Tests.{eq-eqb, ne_eqb, eqb-true, eqb-false}
use Rattle.basics.proofs.Test.{lt_or}
use Rattle.bitmap.specs.inner.Bits.{bit, marked, Adds}
use Rattle.bitmap.proofs.Words.{bit_zero, bit_set}

pub word_bit : (bits : List ℕ) (w i : ℕ) → i < 64 → marked bits (64 * w + i) ≡ bit (get_or bits w 0) i
unfolding marked
word_bit bits w i h = ap₂ (λ (v j : ℕ). bit (get_or bits v 0) j) (omega arith) (omega arith)

-- the same for a bit by its number
at_word : (bits : List ℕ) (i v : ℕ) → get_or bits (i / 64) 0 ≡ v → marked bits i ≡ bit v (i % 64)
unfolding marked
at_word bits i v e = ap (λ (x : ℕ). bit x (i % 64)) e

zero_word : (bits : List ℕ) (i : ℕ) → get_or bits (i / 64) 0 ≡ 0 → marked bits i ≡ false
zero_word bits i e = at_word bits i 0 e ∙ bit_zero (i % 64)

pub past : (bits : List ℕ) (i : ℕ) → 64 * length bits ≤ i → marked bits i ≡ false
past bits i h = zero_word bits i (get_or-eq_default bits 0 (omega arith))

pub all_clear : (bits : List ℕ) → ((w : ℕ) → w < length bits → get_or bits w 0 ≡ 0)
    → (i : ℕ) → marked bits i ≡ false
all_clear bits h i =
    elim (lt_or (i / 64) (length bits)) [
      | inl l ↦ zero_word bits i (h (i / 64) l)
      | inr l ↦ zero_word bits i (get_or-eq_default bits 0 l)
    ]

pub blank : (n i : ℕ) → marked (replicate n 0) i ≡ false
blank n = all_clear (replicate n 0) (λ w l. get_or-replicate n w 0 0 (omega (arith, length-replicate n zero)))

-- a bit set: first the tests of two numbers, by their words and places
same_test : (a b c d : ℕ) → (a ≡ b → c ≡ d) → (c ≡ d → a ≡ b) → eqb a b ≡ eqb c d
same_test a b c d f g = go (eqb a b) refl
  where
    go : (t : Bool) → eqb a b ≡ t → eqb a b ≡ eqb c d
    go true e = e ∙ sym (eq-eqb c d (f (eqb-true a b e)))
    go false e = e ∙ sym (ne_eqb c d (λ q. eqb-false a b e (g q)))

or_false : (b : Bool) → (b || false) ≡ b
or_false true = refl
or_false false = refl

module _ (bits : List ℕ) (k : ℕ) (fits : k < 64 * length bits) where
  abbrev pub marking : List ℕ
  marking = set bits (k / 64) (bit_or (get_or bits (k / 64) 0) ((1 * 2 ^ (k % 64)) % 2 ^ 64))

  in_word : (i : ℕ) → k / 64 ≡ i / 64 → marked marking i ≡ (marked bits i || eqb k i)
  in_word i e =
      let w = get_or bits (k / 64) 0 in
      let new = get_or-set_same bits (k / 64) _ 0 (omega arith) in
      at_word marking i _ (ap (λ (v : ℕ). get_or marking v 0) (sym e) ∙ new)
      ∙ bit_set w (k % 64) (i % 64) (omega arith)
      ∙ ap₂ ◌||◌ (sym (at_word bits i w (ap (λ (v : ℕ). get_or bits v 0) (sym e))))
      (same_test (k % 64) (i % 64) k i (λ q. omega arith) (λ q. omega arith))

  elsewhere : (i : ℕ) → (k / 64 ≡ i / 64 → ⊥) → marked marking i ≡ (marked bits i || eqb k i)
  elsewhere i f =
      let apart = ne_eqb k i (λ e. f (ap (λ (x : ℕ). x / 64) e)) in
      at_word marking i _ (get_or-set_other bits (k / 64) (i / 64) _ 0 (λ e. f (sym e)))
      ∙ sym (at_word bits i _ refl)
      ∙ sym (ap (λ (b : Bool). marked bits i || b) apart ∙ or_false (marked bits i))

  pub set_adds : Adds k bits marking
  set_adds = record { long = length-set bits (k / 64) _; is = λ i. go i (eqb (k / 64) (i / 64)) refl }
    where
      go : (i : ℕ) (t : Bool) → eqb (k / 64) (i / 64) ≡ t → marked marking i ≡ (marked bits i || eqb k i)
      go i true e = in_word i (eqb-true (k / 64) (i / 64) e)
      go i false e = elsewhere i (eqb-false (k / 64) (i / 64) e)
