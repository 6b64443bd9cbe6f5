-- The ids of a part that are in a window, marked entry by entry.
--     none_used                          no id is in use in no rows
--     MarksTo, marks_none, marks_all     those of the entries below i: at the start, at the end
--     marks_in, marks_out                a turn: an id of the window that is marked, an id of another
-- Assumes nothing.
use Prim.Native.Nat.{ℕ, ◌+◌, ◌≤◌, ◌<◌}
use native.Mathlib.Omega.{arith}
use native.Mathlib.Numerals.{add-one}
use mathlib.Core.Path.{◌≡◌, refl, sym, ap, ap₂, ◌∙◌}
use mathlib.Core.Bool.{Bool, false, ◌||◌}
use mathlib.Core.List.{List}
use lib.Dec.{eqb}
use lib.ListN.{length, get_or, take}
use lib.Seq.{take_all}
use borrow.Author.Tests.{ne_eqb}
use Rattle.basics.proofs.Flags.{or_none, or_assoc, same_test}
use Rattle.bitmap.specs.inner.Bits.{marked, Adds}
use Rattle.numbering.specs.Nodes.{used}
use Rattle.numbering.proofs.Used.{used_next, used_not}
use Rattle.windows.specs.inner.Windows.{window, Outside, Marks}

pub none_used : (rows : List ℕ) (id : ℕ) → used (take 0 rows) id ≡ false
none_used rows id = used_not (take 0 rows) id (λ j l. absurd (omega arith))

pub record MarksTo (lo : ℕ) (rows old new : List ℕ) (i : ℕ) : Type 0 where
  pub long : length new ≡ length old
  pub is : (k : ℕ) → k < window → marked new k ≡ (marked old k || used (take i rows) (lo + k))

pub marks_none : (lo : ℕ) (rows bits : List ℕ) → MarksTo lo rows bits bits 0
marks_none lo rows bits =
    record {
      long = refl;
      is = λ k l.
          sym (ap (λ (b : Bool). marked bits k || b) (none_used rows (lo + k)) ∙ or_none (marked bits k));
    }

module _ {lo i : ℕ} {rows old bits : List ℕ} (m : MarksTo lo rows old bits i) where
  pub marks_all : length rows ≤ i → Marks lo rows old bits
  marks_all h =
      record {
        long = m.long;
        is = λ k l. m.is k l ∙ ap (λ (r : List ℕ). marked old k || used r (lo + k)) (take_all i rows h);
      }

  module _ (h : i < length rows) where
    next : (k : ℕ) → k < window → (t : Bool) → t ≡ eqb (get_or rows i 0) (lo + k)
        → (marked bits k || t) ≡ (marked old k || used (take (i + 1) rows) (lo + k))
    next k l t e =
        ap₂ ◌||◌ (m.is k l) e
        ∙ or_assoc (marked old k) (used (take i rows) (lo + k)) (eqb (get_or rows i 0) (lo + k))
        ∙ ap (λ (b : Bool). marked old k || b) (sym one_more)
      where
        one_more : used (take (i + 1) rows) (lo + k) ≡ (used (take i rows) (lo + k) || eqb (get_or rows i 0) (lo + k))
        one_more = ap (λ (n : ℕ). used (take n rows) (lo + k)) (add-one i) ∙ used_next rows i (lo + k) h

    pub marks_in : {k : ℕ} {new got : List ℕ} → get_or rows i 0 ≡ lo + k → Adds k bits new → got ≡ new
        → MarksTo lo rows old got (i + 1)
    marks_in {k} e a q =
        rw q
        record {
          long = a.long ∙ m.long;
          is = λ j u. a.is j ∙ next j u _ (same_test k j _ (lo + j) (λ q. omega arith) (λ q. omega arith));
        }

    pub marks_out : {got : List ℕ} → Outside lo (get_or rows i 0) → got ≡ bits → MarksTo lo rows old got (i + 1)
    marks_out o q =
        rw q
        record {
          long = m.long;
          is = λ k u. sym (or_none (marked bits k)) ∙ next k u false (sym (ne_eqb _ _ (o.is k u)));
        }
