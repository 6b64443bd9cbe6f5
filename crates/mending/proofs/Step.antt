-- The byte between two samples: how near it is to the exact quotient, 256 a / (a + b). Assumes nothing.
--     held_low, held_high, held_free, held_byte     a number that is held, or not; it is then 1 to 255
--     close                                         the byte of two sizes is within half a step, or under one where it was held
use Prim.Native.Nat.{ℕ, ◌+◌, ◌*◌, ◌/◌, ◌≤◌, ◌<◌}
use native.Mathlib.Omega.{arith}
use native.Mathlib.Nat.{mul-le-mul_left, mod-lt, mod-add-div, mul_assoc}
use mathlib.Core.Path.{◌≡◌, refl, sym, subst}
use mathlib.Core.Logic.{inl, inr}
use borrow.Author.Tests.{lt-ltb, le-ltb}
use Rattle.basics.proofs.Test.{lt_or}
use Rattle.mending.specs.Mend.{rounded, held}
use Rattle.mending.specs.inner.Close.{Close, free, kept}

pub held_low : (r : ℕ) → r < 1 → held r ≡ 1
unfolding held
held_low r h = rw (lt-ltb _ _ h) refl

pub held_high : (r : ℕ) → 255 < r → held r ≡ 255
unfolding held
held_high r h = rw (le-ltb r 1 (omega arith), lt-ltb _ _ h) refl

pub held_free : (r : ℕ) → 1 ≤ r → r ≤ 255 → held r ≡ r
unfolding held
held_free r h i = rw (le-ltb r 1 h, le-ltb 255 r i) refl

pub held_byte : (r : ℕ) → (1 ≤ held r) × (held r ≤ 255)
held_byte r =
    elim (lt_or r 1) [
      | inl l ↦ rw (held_low r l) (omega arith, omega arith)
      | inr l ↦ elim (lt_or 255 r) [ inl m ↦ rw (held_high r m) (omega arith, omega arith) | inr m ↦ rw (held_free r l m) (l, m) ]
    ]

module _ (a b : ℕ) (some-a : 0 < a) (some-b : 0 < b) where
  abbrev r : ℕ
  r = rounded a b

  -- the whole part of a quotient, multiplied out
  divided : (2 * ((a + b) * r) ≤ 512 * a + (a + b)) × (512 * a + (a + b) < 2 * ((a + b) * r) + 2 * (a + b))
  unfolding rounded
  divided =
      let n = 512 * a + (a + b) in
      let split = mod-add-div n (2 * (a + b)) in
      let some : 0 < 2 * (a + b) = omega arith in
      let less = mod-lt n some in
      let same = mul_assoc 2 (a + b) (n / (2 * (a + b))) in
      (omega arith, omega arith)

  held_to_1 : r < 1 → Close a b 1
  held_to_1 l =
      let zero : r ≡ 0 = omega arith in
      let none : (a + b) * r ≡ 0 = rw zero (omega arith) in
      kept (λ e. omega arith) (record { low = omega (arith, divided); high = omega (arith, divided) })

  held_to_255 : 255 < r → Close a b 255
  held_to_255 l =
      let most = mul-le-mul_left (a + b) l in
      kept (λ e. omega arith) (record { low = omega (arith, divided); high = omega (arith, divided) })

  pub close : Close a b (held r)
  close =
      elim (lt_or r 1) [
        | inl l ↦ subst (Close a b) (sym (held_low r l)) (held_to_1 l)
        | inr l ↦ elim (lt_or 255 r) [
          | inl m ↦ subst (Close a b) (sym (held_high r m)) (held_to_255 m)
          | inr m ↦ subst (Close a b) (sym (held_free r l m))
              (free refl (record { low = omega (arith, divided); high = divided.0 }))
        ]
      ]
