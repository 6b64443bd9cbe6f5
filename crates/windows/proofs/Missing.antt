-- Windows that are not hit. Assumes nothing.
--     missed_all                                        no part is hit, as a search over all of them says it
--     next_none, next_more, next-end                    the windows looked at so far
--     missed_unused                                     no id of such a window is in use
use Prim.Native.Nat.{ℕ, ◌+◌, ◌*◌, ◌/◌, ◌≤◌, ◌<◌}
use native.Mathlib.Omega.{arith}
use mathlib.Core.Path.{◌≡◌, subst, ◌∙◌}
use mathlib.Core.Logic.{inl, inr}
use mathlib.Core.Bool.{false}
use mathlib.Core.List.{List}
use lib.ListN.{length}
use Rattle.std.specs.List.{AllWithin, range_with_len}
use Rattle.std.proofs.lemmas.List.FromFn.{length-range_with_len, get_or-range_with_len}
use Rattle.basics.proofs.Test.{true_T, false_F, lt_or}
use Rattle.bitmap.specs.inner.Bits.{marked}
use Rattle.windows.specs.inner.Windows.{window, windows, part, slot, Known, Missed, NextHit}
use Rattle.numbering.specs.Nodes.{used}
use Rattle.numbering.proofs.Used.{used_not}

module _ {hits : List ℕ} {w : ℕ} where
  -- no part is hit, as a search over all of them says it
  pub missed_all : (n : ℕ)
      → AllWithin (λ p. marked hits (slot w p) ≡ false) (range_with_len 0 (n / part + 1)) 0 (length (range_with_len 0 (n / part + 1)))
      → Missed hits n w
  missed_all n f =
      record {
        is = λ p u.
            let l : p < n / part + 1 = omega arith in
            let e = get_or-range_with_len 0 (n / part + 1) p 0 l in
            subst (λ (k : ℕ). marked hits (slot w k) ≡ false) (e ∙ omega arith)
            (f p 0 (omega arith) (omega (arith, length-range_with_len 0 (n / part + 1))));
      }

  -- an entry in the window would be hit
  pub missed_unused : {rows : List ℕ} → Known hits rows w → Missed hits (length rows) w → (k : ℕ) → k < window
      → used rows (window * w + k) ≡ false
  missed_unused {rows} known m k l =
      used_not rows (window * w + k)
      (λ j u q. false_F _ (m.is (j / part) (omega arith)) (true_T _ (known.is j u (omega arith))))

module _ {hits : List ℕ} {n : ℕ} where
  pub next_none : {v : ℕ} → v ≤ windows → NextHit hits n v v
  next_none l = record { low = omega arith; high = l; missed = λ u a b. absurd (omega arith) }

  pub next_more : {v w : ℕ} → NextHit hits n v w → w < windows → Missed hits n w → NextHit hits n v (w + 1)
  next_more {v} {w} h l m =
      record {
        low = omega (arith, h.low);
        high = omega arith;
        missed = λ u a b. elim (lt_or u w) [
          | inl i ↦ h.missed u a i
          | inr i ↦ let q : w ≡ u = omega arith in subst (λ (k : ℕ). Missed hits n k) q m
        ];
      }
