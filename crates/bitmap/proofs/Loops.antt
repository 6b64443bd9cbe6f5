-- What the loops over words hold: the bits of those below an index are counted, and they are ranked.
--     counted_more, counted_fits                            a turn of the count; the count fits
--     Ranked, ranked_none, ranked_more, ranked_whole        the words ranked: at the start, a turn, at the end
--     next_fits, ranked_end                                 the next number fits; what it is at the end
-- Assumes nothing.
use Prim.Native.Nat.{ℕ, ◌+◌, ◌*◌, ◌^◌, ◌≤◌, ◌<◌}
use native.Mathlib.Omega.{arith}
use mathlib.Core.Path.{◌≡◌, sym, ap, ◌∙◌}
use mathlib.Core.Logic.{inl, inr}
use mathlib.Core.List.{List}
use lib.ListN.{length, get_or, set, length-set}
use lib.Seq.{get_or-set_same, get_or-set_other}
use Rattle.basics.specs.Lists.{count}
use Rattle.basics.proofs.Test.{lt_or}
use Rattle.basics.proofs.Search.{count_le}
use Rattle.bitmap.specs.inner.Bits.{bit, marked, Ranks}
use Rattle.bitmap.proofs.Counts.{count_next}

-- an element written at w: those below w + 1 are as asked if those below w were
written : (f : ℕ → ℕ) (l : List ℕ) (w v : ℕ) → w < length l → v ≡ f w
    → ((i : ℕ) → i < w → get_or l i 0 ≡ f i)
    → (i : ℕ) → i < w + 1 → get_or (set l w v) i 0 ≡ f i
written f l w v h e g i u =
    elim (lt_or i w) [
      | inl m ↦ get_or-set_other l w i v 0 (λ q. absurd (omega arith)) ∙ g i m
      | inr m ↦
          let q : w ≡ i = omega arith in
          ap (λ (x : ℕ). get_or (set l w v) x 0) (sym q) ∙ get_or-set_same l w v 0 h ∙ e ∙ ap f q
    ]

-- the number of the first bit of a word
abbrev pub number_of : List ℕ → ℕ → ℕ → ℕ
number_of bits first w = first + count (marked bits) (64 * w)

-- how many bits of a word are set
abbrev pub ones_at : List ℕ → ℕ → ℕ
ones_at bits w = count (bit (get_or bits w 0)) 64

pub counted_more : (bits : List ℕ) (w : ℕ) {set n : ℕ} → set ≡ count (marked bits) (64 * w) → n ≡ ones_at bits w
    → set + n ≡ count (marked bits) (64 * (w + 1))
counted_more bits w e h = omega (arith, e, h, count_next bits w)

pub counted_fits : (bits : List ℕ) (w m : ℕ) {set n : ℕ} → set ≡ count (marked bits) (64 * w) → n ≡ ones_at bits w
    → w < m → 64 * m < 2 ^ 32 → set + n < 2 ^ 32
counted_fits bits w m e h l u = omega (arith, e, h, count_next bits w, count_le (marked bits) (64 * (w + 1)))

pub record Ranked (bits : List ℕ) (first : ℕ) (ranks : List ℕ) (next w : ℕ) : Type 0 where
  pub long : length ranks ≡ length bits
  pub within : w ≤ length bits
  pub is_next : next ≡ number_of bits first w
  pub is : (i : ℕ) → i < w → get_or ranks i 0 ≡ number_of bits first i

pub ranked_none : (bits : List ℕ) (first : ℕ) (ranks : List ℕ) → length ranks ≡ length bits
    → Ranked bits first ranks first 0
unfolding count
ranked_none bits first ranks e =
    record { long = e; within = omega arith; is_next = omega arith; is = λ i l. absurd (omega arith) }

module _ {bits : List ℕ} {first : ℕ} {ranks : List ℕ} {next w : ℕ} (k : Ranked bits first ranks next w) where
  pub ranked_more : {n : ℕ} → w < length bits → n ≡ ones_at bits w → Ranked bits first (set ranks w next) (next + n) (w + 1)
  ranked_more h e =
      record {
        long = length-set ranks w next ∙ k.long;
        within = omega arith;
        is_next = omega (arith, k.is_next, count_next bits w, e);
        is = written (number_of bits first) ranks w next (omega (arith, k.long)) k.is_next k.is;
      }

  pub next_fits : {n : ℕ} → w < length bits → n ≡ ones_at bits w → first + 64 * length bits < 2 ^ 32 → next + n < 2 ^ 32
  next_fits h e u =
      omega (arith, k.is_next, count_next bits w, e, count_le (marked bits) (64 * (w + 1)))

  pub ranked_whole : length bits ≤ w → Ranks bits first ranks
  ranked_whole h = record { long = k.long; is = λ i l. k.is i (omega arith) }

  pub ranked_end : length bits ≤ w → next ≡ number_of bits first (length bits)
  ranked_end h = k.is_next ∙ ap (number_of bits first) (omega (arith, k.within))
