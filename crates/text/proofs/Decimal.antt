-- The digits of a number. Assumes nothing.
--     all_left, digit_left, last_left    they are found from the last one on
--     read_back                          whoever reads them by tens gets the number back
use Prim.Native.Nat.{ℕ, zero, suc, ◌+◌, ◌*◌, ◌-◌, ◌/◌, ◌%◌, ◌^◌, ◌≤◌, ◌<◌}
use native.Mathlib.Omega.{arith}
use native.Mathlib.Nat.{pow-suc, mul_comm}
use mathlib.Core.Path.{◌≡◌, refl, sym, ap, ◌∙◌}
use mathlib.Core.List.{List, [], ◌∷◌, ◌++◌, append_assoc, append-nil}
use mathlib.Core.Logic.{inl, inr}
use borrow.Author.Tests.{lt-ltb, le-ltb}
use lib.ListN.{length, drop, set}
use Rattle.std.proofs.lemmas.List.{drop_all, drop-set}
use Rattle.basics.proofs.Test.{lt_or}
use Rattle.text.specs.Text.{zero_digit, digits_within, decimal}

-- 10 to the k, ten times
ten : (k : ℕ) → 10 ^ suc k ≡ 10 * 10 ^ k
ten k = pow-suc 10 k ∙ mul_comm (10 ^ k) 10

-- what is found of the digits of n once those from k on stand in a table: its first digits are those of `left`
pub record Found (n k left : ℕ) (table : List ℕ) : Type 0 where
  pub room : left < 10 ^ k
  pub digits : decimal n ≡ digits_within k left ++ drop k table

pub all_left : (n : ℕ) (table : List ℕ) → n < 18446744073709551616 → length table ≡ 20 → Found n 20 n table
unfolding decimal
all_left n table h l =
    record {
      room = omega arith;
      digits = sym (ap (λ (xs : List ℕ). digits_within 20 n ++ xs) (drop_all 20 table (omega arith)) ∙ append-nil _);
    }

-- where two digits or more are left, there is room for them
pub tens_left : (n k left : ℕ) (table : List ℕ) → Found n (suc k) left table → 10 ≤ left → 0 < k
tens_left n zero left table w m = absurd (omega (arith, w.room, ten zero))
tens_left n (suc k) left table w m = omega arith

-- a digit put before those that stand there
put_before : (k d : ℕ) (table : List ℕ) → k < length table → drop k (set table k d) ≡ d ∷ drop (suc k) table
put_before k d table h =
    let e : k + 1 ≡ suc k = omega arith in
    drop-set table k d h ∙ ap (λ (m : ℕ). d ∷ drop m table) e

module _ (n k left : ℕ) (table : List ℕ) (w : Found n (suc k) left table) (h : k < length table) where
  pub last_left : left < 10 → drop k (set table k (zero_digit + left)) ≡ decimal n
  unfolding digits_within
  last_left l =
      let one : digits_within (suc k) left ≡ (zero_digit + left) ∷ [] = rw (lt-ltb left 10 l) refl in
      put_before k (zero_digit + left) table h ∙ sym (w.digits ∙ ap (λ (xs : List ℕ). xs ++ drop (suc k) table) one)

  pub digit_left : 10 ≤ left → Found n k (left / 10) (set table k (zero_digit + left % 10))
  unfolding digits_within
  digit_left m =
      let d = zero_digit + left % 10 in
      let more : digits_within (suc k) left ≡ digits_within k (left / 10) ++ (d ∷ []) = rw (le-ltb left 10 m) refl in
      record {
        room = omega (arith, w.room, ten k);
        digits =
            w.digits ∙ ap (λ (xs : List ℕ). xs ++ drop (suc k) table) more
            ∙ append_assoc (digits_within k (left / 10)) (d ∷ []) (drop (suc k) table)
            ∙ ap (λ (xs : List ℕ). digits_within k (left / 10) ++ xs) (sym (put_before k d table h));
      }

-- digits read after a number, from the highest on
abbrev pub read_from : ℕ → List ℕ → ℕ
read_from v [] = v
read_from v (d ∷ ds) = read_from (10 * v + (d - zero_digit)) ds

read_last : (v d : ℕ) (ds : List ℕ) → read_from v (ds ++ (d ∷ [])) ≡ 10 * read_from v ds + (d - zero_digit)
read_last v d [] = refl
read_last v d (e ∷ ds) = read_last (10 * v + (e - zero_digit)) d ds

read_within : (k n : ℕ) → n < 10 ^ k → read_from 0 (digits_within k n) ≡ n
unfolding digits_within
read_within zero n h = omega arith
read_within (suc k) n h =
    elim (lt_or n 10) [
      | inl l ↦ rw (lt-ltb n 10 l) (omega arith)
      | inr l ↦
          let tenth : n / 10 < 10 ^ k = omega (arith, h, ten k) in
          rw (le-ltb n 10 l)
          (omega (arith, read_last 0 (zero_digit + n % 10) (digits_within k (n / 10)), read_within k (n / 10) tenth))
    ]

pub read_back : (n : ℕ) → n < 18446744073709551616 → read_from 0 (decimal n) ≡ n
unfolding decimal
read_back n h = read_within 20 n (omega arith)
