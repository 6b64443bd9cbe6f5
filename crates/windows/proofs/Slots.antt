-- Where hits are kept, and tables of hits that only grow.
--     slot_own, slot_shared, slot_fits          a part's slot; the one that the last parts share; each fits
--     grows_not, grows_then, grows_add          bits that were set stay set: no change, two steps, one bit set
--     add_hit                                   the bit that was set is set
--     MostTo, most_none, most_more, most_all    the greatest entry below i: at the start, a turn, the end
--     low_told                                  a part that has ids of the first window only
-- Assumes nothing.
use Prim.Native.Nat.{ℕ, ◌+◌, ◌*◌, ◌≤◌, ◌<◌}
use native.Mathlib.Omega.{arith}
use mathlib.Core.Path.{◌≡◌, refl, ap, ◌∙◌}
use mathlib.Core.Logic.{inl, inr}
use mathlib.Core.Bool.{Bool, true, ◌||◌}
use mathlib.Core.List.{List}
use lib.Dec.{eqb}
use lib.ListN.{length, get_or}
use borrow.Author.Tests.{lt-ltb, le-ltb, eq-eqb}
use Rattle.basics.proofs.Test.{lt_or}
use Rattle.basics.proofs.Flags.{or_right}
use Rattle.bitmap.specs.inner.Bits.{marked, Adds}
use Rattle.windows.specs.inner.Windows.{window, windows, last_part, hit_words, slot, AtMost, Grows, Told}

pub slot_own : (w p : ℕ) → p < last_part → slot w p ≡ 22528 * w + p
unfolding slot
slot_own w p h = simp (lt-ltb _ _ h)

pub slot_shared : (w p : ℕ) → last_part ≤ p → slot w p ≡ 22528 * w + last_part
unfolding slot
slot_shared w p h = simp (le-ltb _ _ h)

pub slot_fits : (w p : ℕ) → w < windows → slot w p < 64 * hit_words
slot_fits w p h =
    elim (lt_or p last_part) [
      | inl l ↦ omega (arith, slot_own w p l)
      | inr l ↦ omega (arith, slot_shared w p l)
    ]

-- bits that were set stay set
pub grows_not : (hits : List ℕ) → Grows hits hits
grows_not hits = record { long = refl; keeps = λ k e. e }

pub grows_then : {a b c : List ℕ} → Grows a b → Grows b c → Grows a c
grows_then g h = record { long = h.long ∙ g.long; keeps = λ k e. h.keeps k (g.keeps k e) }

pub grows_add : {k : ℕ} {old new : List ℕ} → Adds k old new → Grows old new
grows_add {k} {old} a =
    record { long = a.long; keeps = λ i e. a.is i ∙ ap (λ (b : Bool). b || eqb k i) e }

pub add_hit : {k : ℕ} {old new : List ℕ} → Adds k old new → marked new k ≡ true
add_hit {k} {old} a = a.is k ∙ or_right (marked old k) (eqb k k) (eq-eqb k k refl)

-- the greatest entry, so far
pub record MostTo (most : ℕ) (rows : List ℕ) (i : ℕ) : Type 0 where
  pub is : (j : ℕ) → j < i → get_or rows j 0 ≤ most

pub most_none : (most : ℕ) (rows : List ℕ) → MostTo most rows 0
most_none most rows = record { is = λ j l. absurd (omega arith) }

pub most_more : {m n i : ℕ} {rows : List ℕ} → MostTo m rows i → m ≤ n → get_or rows i 0 ≤ n
    → MostTo n rows (i + 1)
most_more {m} {n} {i} {rows} a l h = record { is = go }
  where
    go : (j : ℕ) → j < i + 1 → get_or rows j 0 ≤ n
    go j u =
        elim (lt_or j i) [
          | inl v ↦ omega (arith, a.is j v)
          | inr v ↦ let q : j ≡ i = omega arith in omega (arith, ap (λ (x : ℕ). get_or rows x 0) q)
        ]

pub most_all : {most i : ℕ} {rows : List ℕ} → MostTo most rows i → length rows ≤ i → AtMost most rows
most_all a l = record { is = λ j h. a.is j (omega arith) }

-- the first window's slot serves for ids that are all below its end
pub low_told : {most p : ℕ} {hits rows : List ℕ} → AtMost most rows → most < window
    → marked hits (slot 0 p) ≡ true → Told hits rows p
low_told {p = p} {hits} {rows} a l e =
    record {
      inside = λ j h. omega (arith, a.is j h);
      hit = λ j h. ap (λ (w : ℕ). marked hits (slot w p)) (omega (arith, a.is j h)) ∙ e;
    }
