-- Laws of the counts of a table's bits.
--     count_word     the count up to a place of a word, from the count up to the word
--     count_next     the count up to the next word, as the code adds it
--     count_at       the count up to a bit
--     number_is, number_fits    the number of a bit, from the rank of its word and the count there; it fits
-- Assumes nothing.
use Prim.Native.Nat.{ℕ, ◌+◌, ◌*◌, ◌/◌, ◌%◌, ◌^◌, ◌≤◌, ◌<◌}
use native.Mathlib.Omega.{arith}
use mathlib.Core.Path.{◌≡◌, ap, ◌∙◌}
use mathlib.Core.List.{List}
use lib.ListN.{length, get_or}
use Rattle.basics.specs.Lists.{count}
use Rattle.basics.proofs.Search.{count_le, count_same, count_parts}
use Rattle.bitmap.specs.inner.Bits.{bit, marked, Ranks}
use Rattle.bitmap.proofs.Tables.{word_bit}

pub count_word : (bits : List ℕ) (w j : ℕ) → j ≤ 64
    → count (marked bits) (64 * w + j) ≡ count (marked bits) (64 * w) + count (bit (get_or bits w 0)) j
count_word bits w j h = omega (arith, count_parts (marked bits) (64 * w) j, within)
  where
    within : count (λ i. marked bits (64 * w + i)) j ≡ count (bit (get_or bits w 0)) j
    within = count_same _ (bit (get_or bits w 0)) j (λ i l. word_bit bits w i (omega arith))

pub count_next : (bits : List ℕ) (w : ℕ)
    → count (marked bits) (64 * (w + 1)) ≡ count (marked bits) (64 * w) + count (bit (get_or bits w 0)) 64
count_next bits w = ap (count (marked bits)) (omega arith) ∙ count_word bits w 64 (omega arith)

pub count_at : (bits : List ℕ) (k : ℕ)
    → count (marked bits) k
    ≡ count (marked bits) (64 * (k / 64)) + count (bit (get_or bits (k / 64) 0)) (k % 64)
count_at bits k = ap (count (marked bits)) (omega arith) ∙ count_word bits (k / 64) (k % 64) (omega arith)

-- the number of a bit, from the rank of its word and the count there
module _ {bits : List ℕ} {first : ℕ} {ranks : List ℕ} {n : ℕ} (k : ℕ) (r : Ranks bits first ranks)
    (h : k < 64 * length bits) (e : n ≡ count (bit (get_or bits (k / 64) 0)) (k % 64)) where
  pub number_is : get_or ranks (k / 64) 0 + n ≡ first + count (marked bits) k
  number_is = omega (arith, e, r.is (k / 64) (omega arith), count_at bits k)

  pub number_fits : first + 64 * length bits < 2 ^ 32 → get_or ranks (k / 64) 0 + n < 2 ^ 32
  number_fits u = omega (arith, number_is, count_le (marked bits) k)
