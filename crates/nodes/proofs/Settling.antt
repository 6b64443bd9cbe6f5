-- Rows of which the ids below a window have become their numbers. Assumes nothing.
--     settled_low, settled_high     an id below the windows done has become its number, another stays
--     still_known                   the hits still say where the entries of this window are
--     settled_next                  rewriting a window's entries
--     windowed_back                 marking the rewritten rows marks the ids of the rows as they were
use Prim.Native.Nat.{ℕ, ◌+◌, ◌*◌, ◌-◌, ◌/◌, ◌≤◌, ◌<◌}
use native.Mathlib.Omega.{arith}
use mathlib.Core.Path.{◌≡◌, refl, sym, ap, subst, ◌∙◌}
use mathlib.Core.Logic.{inl, inr}
use mathlib.Core.Bool.{true}
use mathlib.Core.List.{List}
use lib.ListN.{length, get_or}
use borrow.Author.Tests.{lt-ltb, le-ltb, le-leb, lt-leb}
use Rattle.basics.proofs.Test.{lt_or}
use Rattle.bitmap.specs.inner.Bits.{marked}
use Rattle.windows.specs.inner.Windows.{window, part, slot, Spread, Known, Windowed, in_window, put_in}
use Rattle.numbering.specs.Nodes.{node_number}
use Rattle.numbering.proofs.Used.{used_same, number_le}
use Rattle.nodes.specs.inner.Rounds.{settled}
use Rattle.nodes.proofs.Surveying.{window_count}

pub settled_low : (rows : List ℕ) (lo id : ℕ) → id < lo → settled rows lo id ≡ node_number rows id
unfolding settled
settled_low rows lo id h = rw (lt-ltb id lo h) refl

pub settled_high : (rows : List ℕ) (lo id : ℕ) → lo ≤ id → settled rows lo id ≡ id
unfolding settled
settled_high rows lo id h = rw (le-ltb id lo h) refl

-- what is at or past the windows done was never rewritten
stays : (rows : List ℕ) (lo id : ℕ) → lo ≤ settled rows lo id → settled rows lo id ≡ id
stays rows lo id h =
    elim (lt_or id lo) [
      | inl l ↦ absurd (omega (arith, h, settled_low rows lo id l, number_le rows id))
      | inr l ↦ settled_high rows lo id l
    ]

module _ (rows now : List ℕ) (lo : ℕ) (long : length now ≡ length rows)
    (is : (j : ℕ) → j < length rows → get_or now j 0 ≡ settled rows lo (get_or rows j 0)) where
  own : (j : ℕ) → j < length rows → lo ≤ get_or now j 0 → get_or now j 0 ≡ get_or rows j 0
  own j l h = is j l ∙ stays rows lo (get_or rows j 0) (omega (arith, h, is j l))

  pub still_known : {hits : List ℕ} (w : ℕ) → lo ≡ window * w → Spread hits rows (length rows) → Known hits now w
  still_known {hits} w e h =
      record {
        is = λ j l q.
            let i : j < length rows = omega (arith, long) in
            let same = own j i (omega arith) in
            subst (λ (k : ℕ). marked hits (slot k (j / part)) ≡ true) (ap (λ (id : ℕ). id / window) (sym same) ∙ q) (h.hit j i);
      }

  pub windowed_back : {bits : List ℕ} → Windowed lo now bits → Windowed lo rows bits
  windowed_back h =
      record {
        long = h.long;
        is = λ k l. h.is k l
            ∙ used_same rows now (lo + k) long
            (λ j i. (
              (λ q. is j i ∙ settled_high rows lo (get_or rows j 0) (omega arith) ∙ q),
              (λ q. sym (own j i (omega arith)) ∙ q),
            ));
      }

-- a window's entries are rewritten as their numbers, and no others
pub settled_next : {rows bits : List ℕ} {lo : ℕ} (first id : ℕ) → Windowed lo rows bits → first ≡ node_number rows lo
    → put_in bits first lo (settled rows lo id) ≡ settled rows (lo + window) id
unfolding put_in in_window
settled_next {rows} {bits} {lo} first id h f =
    elim (lt_or id lo) [
      | inl l ↦
          let low = settled_low rows lo id l in
          ap (put_in bits first lo) low
          ∙ rw (lt-leb lo (node_number rows id) (omega (arith, number_le rows id))) (sym (settled_low rows (lo + window) id (omega arith)))
      | inr l ↦ ap (put_in bits first lo) (settled_high rows lo id l) ∙ elim (lt_or id (lo + window)) [
        | inl u ↦
            let q : lo + (id - lo) ≡ id = omega arith in
            let n = window_count h (id - lo) (omega arith) in
            rw (le-leb lo id l, lt-ltb (id - lo) window (omega arith))
            (omega (arith, f, n, ap (node_number rows) q) ∙ sym (settled_low rows (lo + window) id u))
        | inr u ↦
            rw (le-leb lo id l, le-ltb (id - lo) window (omega arith)) (sym (settled_high rows (lo + window) id u))
      ]
    ]
