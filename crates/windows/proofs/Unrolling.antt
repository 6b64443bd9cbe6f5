-- The numbers of a window's ids, written one after the other.
--     Unrolls, unrolls_none, unrolls_more, unrolls_all    the entries below k: at the start, a turn, the end
--     unrolls_fits                                        the next number fits
-- Assumes nothing.
use Prim.Native.Nat.{ℕ, ◌+◌, ◌^◌, ◌≤◌, ◌<◌}
use native.Mathlib.Omega.{arith}
use native.Mathlib.Numerals.{add-one}
use mathlib.Core.Path.{◌≡◌, refl, sym, ap, ◌∙◌}
use mathlib.Core.Logic.{inl, inr}
use mathlib.Core.Bool.{Bool, true, false}
use mir.Val.{bool_byte}
use mathlib.Core.List.{List}
use lib.ListN.{length, get_or, set, length-set}
use lib.Seq.{get_or-set_same, get_or-set_other}
use Rattle.std.specs.Prelude.{if◌then◌else◌}
use Rattle.basics.specs.Lists.{count}
use Rattle.basics.proofs.Test.{lt_or}
use Rattle.basics.proofs.Search.{count_le}
use Rattle.bitmap.specs.inner.Bits.{marked}
use Rattle.windows.specs.inner.Windows.{window, Unrolled}

-- the table's entries below k are written, and the number of k is next
pub record Unrolls (bits : List ℕ) (first : ℕ) (numbers : List ℕ) (next k : ℕ) : Type 0 where
  pub long : length numbers ≡ window
  pub is_next : next ≡ first + count (marked bits) k
  pub is : (j : ℕ) → j < k → get_or numbers j 0 ≡ first + count (marked bits) j

pub unrolls_none : (bits : List ℕ) (first : ℕ) (numbers : List ℕ) → length numbers ≡ window → Unrolls bits first numbers first 0
unfolding count
unrolls_none bits first numbers e =
    record { long = e; is_next = omega arith; is = λ j l. absurd (omega arith) }

-- a bit as a number
as_number : (t : Bool) → bool_byte t ≡ (if t then 1 else 0)
as_number true = refl
as_number false = refl

count_bit : (bits : List ℕ) (k : ℕ) {t : Bool} {n : ℕ} → n ≡ bool_byte t → t ≡ marked bits k
    → count (marked bits) (k + 1) ≡ count (marked bits) k + n
unfolding count
count_bit bits k {t} e m =
    ap (count (marked bits)) (add-one k)
    ∙ ap (λ (d : ℕ). count (marked bits) k + d) (sym (e ∙ as_number t ∙ ap (λ (b : Bool). if b then 1 else 0) m))

module _ {bits : List ℕ} {first : ℕ} {numbers : List ℕ} {next k : ℕ} (u : Unrolls bits first numbers next k) where
  module _ {t : Bool} {n : ℕ} (e : n ≡ bool_byte t) (m : t ≡ marked bits k) (l : k < window) where
    pub unrolls_fits : first + window < 2 ^ 32 → next + n < 2 ^ 32
    unrolls_fits h = omega (arith, u.is_next, count_bit bits k e m, count_le (marked bits) (k + 1))

    pub unrolls_more : Unrolls bits first (set numbers k next) (next + n) (k + 1)
    unrolls_more =
        record {
          long = length-set numbers k next ∙ u.long;
          is_next = omega (arith, u.is_next, count_bit bits k e m);
          is = λ j i. elim (lt_or j k) [
            | inl v ↦ get_or-set_other numbers k j next 0 (λ q. absurd (omega arith)) ∙ u.is j v
            | inr v ↦
                let q : j ≡ k = omega arith in
                ap (λ (x : ℕ). get_or (set numbers k next) x 0) q ∙ get_or-set_same numbers k next 0 (omega (arith, u.long))
                ∙ u.is_next ∙ ap (λ (x : ℕ). first + count (marked bits) x) (sym q)
          ];
        }

  pub unrolls_all : window ≤ k → Unrolled bits first numbers
  unrolls_all l = record { long = u.long; is = λ j m. u.is j (omega arith) }
