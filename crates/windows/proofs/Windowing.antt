-- The ids of a window, marked part by part.
--     WindowedTo, windowed_none, windowed_all    those of the first p parts: at the start, at the end
--     marked_part, passed_part                   a turn: a part marked, and one left out that has no id there
--     not_there                                  a part that is not hit has no id of the window
-- Assumes nothing.
use Prim.Native.Nat.{ℕ, ◌+◌, ◌*◌, ◌/◌, ◌≤◌, ◌<◌}
use native.Mathlib.Omega.{arith}
use mathlib.Core.Path.{◌≡◌, sym, ap, ap₂, ◌∙◌}
use mathlib.Core.Logic.{inl, inr}
use mathlib.Core.Bool.{Bool, false, ◌||◌}
use mathlib.Core.List.{List}
use lib.ListN.{length, get_or, take, drop, length-take, length-drop}
use lib.Seq.{take_all, take-add}
use Rattle.basics.proofs.Test.{lt_or}
use Rattle.basics.proofs.Flags.{or_none}
use Rattle.basics.proofs.Part.{lent_at}
use Rattle.bitmap.specs.inner.Bits.{marked, Clears}
use Rattle.numbering.specs.Nodes.{used}
use Rattle.numbering.proofs.Used.{used_more, used_not}
use Rattle.windows.specs.inner.Windows.{window, words, part, slot, Outside, Known, Marks, Windowed}
use Rattle.windows.proofs.Marking.{none_used}
use Rattle.windows.proofs.Parts.{Left, Taken, fits, full}
use Rattle.windows.proofs.Parts as parts

pub record WindowedTo (lo : ℕ) (rows bits : List ℕ) (p : ℕ) : Type 0 where
  pub long : length bits ≡ words
  pub is : (k : ℕ) → k < window → marked bits k ≡ used (take (part * p) rows) (lo + k)

pub windowed_none : (lo : ℕ) (rows : List ℕ) {old bits : List ℕ} {p : ℕ} → p ≡ 0 → length old ≡ words → Clears old bits
    → WindowedTo lo rows bits p
windowed_none lo rows z e c =
    record {
      long = c.long ∙ e;
      is = λ k l. c.is k ∙ sym (ap (λ (p : ℕ). used (take (part * p) rows) (lo + k)) z ∙ none_used rows (lo + k));
    }

module _ {lo p : ℕ} {rows bits : List ℕ} (d : WindowedTo lo rows bits p) where
  pub windowed_all : length rows ≤ part * p → Windowed lo rows bits
  windowed_all h =
      record {
        long = d.long;
        is = λ k l. d.is k l ∙ ap (λ (r : List ℕ). used r (lo + k)) (take_all (part * p) rows h);
      }

  abbrev here : List ℕ
  here = take part (drop (part * p) rows)

  more : (k : ℕ)
      → used (take (part * (p + 1)) rows) (lo + k) ≡ (used (take (part * p) rows) (lo + k) || used here (lo + k))
  more k =
      let e : part * (p + 1) ≡ part * p + part = omega arith in
      ap (λ (n : ℕ). used (take n rows) (lo + k)) e
      ∙ ap (λ (r : List ℕ). used r (lo + k)) (take-add (part * p) part rows)
      ∙ used_more (take (part * p) rows) here (lo + k)

  module _ {left taken rest : List ℕ} {size to at next : ℕ} (l : Left rows left size p)
      (t : Taken size to p at next left taken rest) where
    whole : taken ≡ here
    whole =
        parts.here l t
        ∙ elim (lt_or (length taken) part) [
          | inl u ↦
              let e = full l t u in
              let long = length-drop (part * p) rows in
              take_all (length taken) _ (omega arith) ∙ sym (take_all part (drop (part * p) rows) (omega arith))
          | inr u ↦
              let e : length taken ≡ part = omega (arith, fits l t) in
              ap (λ (x : ℕ). take x (drop (part * p) rows)) e
        ]

    -- the part is marked
    pub marked_part : {new : List ℕ} → Marks lo taken bits new → WindowedTo lo rows new next
    marked_part m =
        record {
          long = m.long ∙ d.long;
          is = λ k u.
              m.is k u
              ∙ ap₂ (λ (b : Bool) (r : List ℕ). b || used r (lo + k)) (d.is k u) whole
              ∙ sym (more k)
              ∙ ap (λ (q : ℕ). used (take (part * q) rows) (lo + k)) (sym t.is_next);
        }

    -- it has no id of the window
    pub passed_part : ((j : ℕ) → j < length rows → j / part ≡ at → Outside lo (get_or rows j 0)) → WindowedTo lo rows bits next
    passed_part f =
        record {
          long = d.long;
          is = λ k u.
              d.is k u ∙ sym (or_none (used (take (part * p) rows) (lo + k)))
              ∙ ap (λ (b : Bool). used (take (part * p) rows) (lo + k) || b) (sym (unused k u))
              ∙ sym (more k)
              ∙ ap (λ (q : ℕ). used (take (part * q) rows) (lo + k)) (sym t.is_next);
        }
      where
        none : (k : ℕ) → k < window → (j : ℕ) → j < length here → get_or here j 0 ≡ lo + k → ⊥
        none k l j h e =
            let u = simp (length-take, length-drop) at h in
            let s : j < part = omega arith in
            (f (part * p + j) (omega arith) (omega (arith, t.is_at))).is k l (sym (lent_at (part * p) part rows j s) ∙ e)

        unused : (k : ℕ) → k < window → used here (lo + k) ≡ false
        unused k l = used_not here (lo + k) (none k l)

-- a part that is not hit
pub not_there : {hits rows : List ℕ} {w p : ℕ} → Known hits rows w → marked hits (slot w p) ≡ false
    → (j : ℕ) → j < length rows → j / part ≡ p → Outside (window * w) (get_or rows j 0)
not_there {hits} {w = w} n f j h q =
    record {
      is = λ k l e.
          let t = n.is j h (omega arith) in
          let u = ap (λ (x : ℕ). marked hits (slot w x)) (sym q) ∙ t in
          let z : ◌≡◌ {A = ℕ} 0 1 = cc in omega arith;
    }
