-- A table gone over in parts, one after the other. Assumes nothing.
--     Left, left_none, left_ended         what is left after the first parts: at the start, at the end
--     Taken, taken                        a part taken off what is left, as the code says it
--     here, fits, full, inside            what the part is, and how long
--     left_more                           what is left then
use Prim.Native.Nat.{ℕ, min, ◌+◌, ◌*◌, ◌≤◌, ◌<◌}
use native.Mathlib.Omega.{arith}
use mathlib.Core.Path.{◌≡◌, sym, ap, ◌∙◌}
use mathlib.Core.Logic.{inl, inr}
use mathlib.Core.List.{List, ◌++◌}
use lib.ListN.{length, take, drop, length-drop, length-append, drop_of_length-le}
use lib.Seq.{take-append_seam, drop-append_seam, drop-drop}
use Rattle.std.proofs.lemmas.List.{nil_from_length}
use Rattle.basics.proofs.Test.{lt_or}
use Rattle.windows.specs.inner.Windows.{part}

pub record Left (rows left : List ℕ) (size p : ℕ) : Type 0 where
  pub is_size : size ≡ part
  pub is_left : left ≡ drop (part * p) rows

pub left_none : {rows left : List ℕ} {size p : ℕ} → p ≡ 0 → left ≡ rows → size ≡ part → Left rows left size p
left_none {rows} z e s = record { is_size = s; is_left = e ∙ sym (ap (λ (k : ℕ). drop (part * k) rows) z) }

pub left_ended : {rows left : List ℕ} {size p : ℕ} → Left rows left size p → length left ≡ 0 → length rows ≤ part * p
left_ended {rows} {p = p} l e = omega (arith, ap length l.is_left, length-drop (part * p) rows)

pub record Taken (size to p at next : ℕ) (left taken rest : List ℕ) : Type 0 where
  pub same : to ≡ size
  pub parts : left ≡ taken ++ rest
  pub long : length taken ≡ min size (length left)
  pub some : 0 < length left
  pub is_at : at ≡ p
  pub is_next : next ≡ p + 1

pub taken : {size to p at next : ℕ} {left part rest : List ℕ}
    → to ≡ size → left ≡ part ++ rest → length part ≡ min size (length left) → 0 < length left → at ≡ p → next ≡ p + 1
    → Taken size to p at next left part rest
taken a b c d e f = record { same = a; parts = b; long = c; some = d; is_at = e; is_next = f }

module _ {rows left part_rows rest : List ℕ} {size to p at next : ℕ} (l : Left rows left size p)
    (t : Taken size to p at next left part_rows rest) where
  there : drop (part * p) rows ≡ part_rows ++ rest
  there = sym l.is_left ∙ t.parts

  pub here : part_rows ≡ take (length part_rows) (drop (part * p) rows)
  here = sym (ap (take (length part_rows)) there ∙ take-append_seam part_rows rest)

  pub fits : length part_rows ≤ part
  fits = omega (arith, t.long, l.is_size)

  long : length left ≡ length part_rows + length rest
  long = ap length t.parts ∙ length-append part_rows rest

  whole : length left ≡ length (drop (part * p) rows)
  whole = ap length l.is_left

  pub full : length part_rows < part → part * p + length part_rows ≡ length rows
  full u = omega (arith, t.long, t.some, l.is_size, long, whole, length-drop (part * p) rows)

  pub inside : part * p + length part_rows ≤ length rows
  inside = omega (arith, t.long, t.some, long, whole, length-drop (part * p) rows)

  pub left_more : Left rows rest to next
  left_more =
      record {
        is_size = t.same ∙ l.is_size;
        is_left = after ∙ ap (λ (k : ℕ). drop k rows) (omega (arith, t.is_next));
      }
    where
      after : rest ≡ drop (part * p + part) rows
      after =
          elim (lt_or (length part_rows) part) [
            | inl u ↦
                nil_from_length rest (omega (arith, t.long, l.is_size, long))
                ∙ sym (drop_of_length-le rows (omega (arith, t.long, t.some, l.is_size, long, whole, length-drop (part * p) rows)))
            | inr u ↦
                let q : length part_rows ≡ part = omega (arith, fits) in
                sym (drop-append_seam part_rows rest) ∙ ap (drop (length part_rows)) (sym there)
                ∙ drop-drop (length part_rows) (part * p) rows ∙ ap (λ (k : ℕ). drop (part * p + k) rows) q
          ]
