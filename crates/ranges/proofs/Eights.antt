-- Bytes tested together: a joint test of two halves, and many joint tests folded by `|`. Assumes nothing.
use Prim.Native.Nat.{ℕ, zero, suc, ◌+◌, ◌-◌, ◌*◌, ◌/◌, ◌%◌, ◌≤◌, ◌<◌}
use native.Mathlib.Omega.{arith}
use mathlib.Core.Path.{◌≡◌, sym, ap, ◌∙◌}
use mathlib.Core.Logic.{inl, inr}
use mathlib.Core.List.{List, []}
use lib.Bits.{bit_or, or_add_and, and_le_l, and_le_r}
use lib.ListN.{length, get_or, get_or-eq_default, drop}
use Rattle.std.specs.Simd.{first_chunks}
use Rattle.std.proofs.lemmas.List.{get_or-take, get_or-drop}
use Rattle.basics.proofs.Test.{lt_or}
use Rattle.ranges.specs.inner.Blank.{Blank, Joint}

joined : (bytes : List ℕ) (from middle to : ℕ) → Blank bytes from middle → Blank bytes middle to → Blank bytes from to
joined bytes from middle to v w o a b = elim (lt_or o middle) [ inl u ↦ v o a u | inr u ↦ w o u b ]

-- a byte by itself
pub one : (bytes : List ℕ) (o : ℕ) → Joint bytes o 1 (get_or bytes o 0)
one bytes o =
    record {
      passed = λ e j a b. let f : j ≡ o = omega arith in ap (λ (k : ℕ). get_or bytes k 0) f ∙ e;
      passes = λ w. w o (omega arith) (omega arith);
    }

-- two halves: their answers are both 0 exactly when the answer of the whole is
module _ {bytes : List ℕ} {o at n m low high whole : ℕ} (e : at ≡ o + n) (f : m ≡ n + n) (v : Joint bytes o n low) (w : Joint bytes at n high) where
  pub halves : (whole ≡ 0 → (low ≡ 0) × (high ≡ 0)) → (low ≡ 0 → high ≡ 0 → whole ≡ 0) → Joint bytes o m whole
  halves to from =
      record {
        passed = λ z. joined bytes o at (o + m) (λ j a b. v.passed (to z).0 j a (omega arith))
            (λ j a b. w.passed (to z).1 j a (omega arith));
        passes = λ z. from (v.passes (λ j a b. z j a (omega arith))) (w.passes (λ j a b. z j (omega arith) (omega arith)));
      }

-- what the tests of the first i eights have seen: 0 only if all their bytes are zero
pub record Seen (eights : List (List ℕ)) (i seen : ℕ) : Type 0 where
  pub none : seen ≡ 0 → (k : ℕ) → k < i → Blank (get_or eights k []) 0 8

pub none_seen : (eights : List (List ℕ)) → Seen eights 0 0
none_seen eights = record { none = λ e k a. absurd (omega arith) }

pub seen_more : {eights : List (List ℕ)} {i seen answer : ℕ} {eight : List ℕ} → Seen eights i seen → eight ≡ get_or eights i []
    → Joint eight 0 8 answer → Seen eights (i + 1) (bit_or seen answer)
seen_more {eights} {i} {seen} {answer} {eight} v e w =
    record {
      none = λ z k a.
          elim (lt_or k i) [
            | inl u ↦ v.none (omega (arith, or_add_and seen answer, and_le_r seen answer)) k u
            | inr u ↦
                let f : k ≡ i = omega arith in
                let g : get_or eights k [] ≡ eight = ap (λ (n : ℕ). get_or eights n []) f ∙ sym e in
                rw g (w.passed (omega (arith, or_add_and seen answer, and_le_l seen answer)))
          ];
    }

-- the bytes of the eights of a table stand in it
byte_at : (n i j : ℕ) (bytes : List ℕ) → i < n → j < 8 → get_or (get_or (first_chunks 8 n bytes) i []) j 0 ≡ get_or bytes (i * 8 + j) 0
byte_at zero i j bytes h l = absurd (omega arith)
byte_at (suc n) zero j bytes h l =
    let e : j ≡ 0 * 8 + j = omega arith in
    get_or-take 8 bytes j 0 l ∙ ap (λ (k : ℕ). get_or bytes k 0) e
byte_at (suc n) (suc i) j bytes h l =
    let e : 8 + (i * 8 + j) ≡ suc i * 8 + j = omega arith in
    byte_at n i j (drop 8 bytes) (omega arith) l ∙ get_or-drop 8 bytes (i * 8 + j) 0 ∙ ap (λ (k : ℕ). get_or bytes k 0) e

-- the eights of a table and what is left over are all of it
pub whole : (bytes rest : List ℕ) {eights : List (List ℕ)} {n m seen : ℕ} → Seen eights m seen → n ≤ m → seen ≡ 0 → eights ≡ first_chunks 8 n bytes
    → rest ≡ drop (n * 8) bytes → Blank rest 0 (length rest) → (o : ℕ) → get_or bytes o 0 ≡ 0
whole bytes rest {eights} {n} v g z e f w o =
    elim (lt_or o (n * 8)) [
      | inl u ↦
          let is : o / 8 * 8 + o % 8 ≡ o = omega arith in
          let i : o / 8 < n = omega arith in
          let none = v.none z (o / 8) (omega arith) (o % 8) (omega arith) (omega arith) in
          let here : get_or (get_or (first_chunks 8 n bytes) (o / 8) []) (o % 8) 0 ≡ 0 = rw e at none in
          ap (λ (k : ℕ). get_or bytes k 0) (sym is) ∙ sym (byte_at n (o / 8) (o % 8) bytes i (omega arith)) ∙ here
      | inr u ↦
          let is : n * 8 + (o - n * 8) ≡ o = omega arith in
          let here : get_or rest (o - n * 8) 0 ≡ 0 = elim (lt_or (o - n * 8) (length rest)) [
            | inl l ↦ w (o - n * 8) (omega arith) l
            | inr l ↦ get_or-eq_default rest 0 l
          ] in
          ap (λ (k : ℕ). get_or bytes k 0) (sym is) ∙ sym (get_or-drop (n * 8) bytes (o - n * 8) 0) ∙ (rw f at here)
    ]
