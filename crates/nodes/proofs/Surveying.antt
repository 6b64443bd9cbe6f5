-- The first round: the ids of one window more are counted and have places. Assumes nothing.
--     spread_known                    a part that has an entry in a window is hit
--     window_count                    the marks of a window count its ids in use
--     found, faulty, found_none       a window's ids counted and with places, or one without; a window without any
--     survey_none, survey_more, survey_done    before the first window, one window more, after the last
--     total_fits                      the total so far
use Prim.Native.Nat.{ℕ, ◌+◌, ◌*◌, ◌-◌, ◌/◌, ◌≤◌, ◌<◌}
use native.Mathlib.Omega.{arith}
use native.Mathlib.Nat.{zero-add}
use mathlib.Core.Path.{◌≡◌, sym, ap, subst, ◌∙◌}
use mathlib.Core.Logic.{inl, inr}
use mathlib.Core.Bool.{true}
use mathlib.Core.List.{List}
use lib.Dec.{T}
use lib.ListN.{length}
use Rattle.basics.specs.Lists.{count}
use Rattle.basics.proofs.Test.{T_true, true_T, false_F, lt_or}
use Rattle.basics.proofs.Search.{count_same, count_parts}
use Rattle.places.specs.declared.stored.Stored.{Stored}
use Rattle.bitmap.specs.inner.Bits.{marked}
use Rattle.windows.specs.inner.Windows.{window, windows, part, slot, Spread, Known, Missed, Windowed}
use Rattle.windows.proofs.Missing.{missed_unused}
use Rattle.numbering.specs.Nodes.{used, node_number}
use Rattle.numbering.proofs.Used.{number_le, number_gap}
use Rattle.coordinates.specs.inner.Marked.{fault, AllPlaced, Unplaced}
use Rattle.nodes.specs.inner.Rounds.{all_ids, SomeUnplaced, Found, Counted, Surveyed}

pub spread_known : {hits rows : List ℕ} → Spread hits rows (length rows) → (w : ℕ) → Known hits rows w
spread_known {hits} {rows} h w =
    record { is = λ j l e. subst (λ (k : ℕ). marked hits (slot k (j / part)) ≡ true) e (h.hit j l) }

pub window_count : {rows bits : List ℕ} {lo : ℕ} → Windowed lo rows bits → (k : ℕ) → k ≤ window
    → count (marked bits) k + node_number rows lo ≡ node_number rows (lo + k)
unfolding node_number
window_count {rows} {bits} {lo} h k l =
    let same = count_same (marked bits) (λ j. used rows (lo + j)) k (λ j u. h.is j (omega arith)) in
    omega (arith, same, count_parts (used rows) lo k)

module _ {st : Stored} {rows : List ℕ} where
  -- one window, marked
  module _ (w : ℕ) {bits : List ℕ} (m : Windowed (window * w) rows bits) where
    pub found : {total next : ℕ} → AllPlaced st (marked bits) (window * w) window
        → next ≡ total + count (marked bits) window → Found st rows w total next
    found p n =
        record {
          counted = omega (arith, n, window_count m window (omega arith), ap (node_number rows) up);
          placed = λ id l u t.
              let k = id - window * w in
              let q : window * w + k ≡ id = omega arith in
              let set = m.is k (omega arith) ∙ ap (used rows) q ∙ T_true _ t in
              subst (λ (i : ℕ). fault st i ≡ 0) q (p.is k (omega arith) set);
        }
      where
        up : window * w + window ≡ window * (w + 1)
        up = omega arith

    pub faulty : Unplaced st (marked bits) (window * w) window → SomeUnplaced st rows
    faulty u =
        record {
          id = window * w + u.at;
          in_use = true_T _ (sym (m.is u.at u.within) ∙ u.passes);
          faulty = u.faulty;
        }

  -- a window without an id in use
  pub found_none : (w : ℕ) {hits : List ℕ} → Spread hits rows (length rows) → Missed hits (length rows) w
      → (total : ℕ) → Found st rows w total total
  found_none w h m total =
      let none = missed_unused (spread_known h w) m in
      let e : window * w + window ≡ window * (w + 1) = omega arith in
      record {
        counted = omega (arith, number_gap rows (window * w) window none, ap (node_number rows) e);
        placed = λ id l u t.
            let q : window * w + (id - window * w) ≡ id = omega arith in
            absurd (false_F _ (ap (used rows) (sym q) ∙ none (id - window * w) (omega arith)) t);
      }

  pub survey_none : {w : ℕ} → w ≡ windows → Surveyed st rows w 0
  survey_none e =
      record {
        some = omega (arith, e);
        few = omega (arith, e);
        counted = zero-add _ ∙ ap (λ (k : ℕ). node_number rows (window * k)) e;
        placed = λ id l u t. absurd (omega (arith, e));
      }

  module _ {v total : ℕ} (h : Surveyed st rows v total) where
    -- a number that is counted on from the total so far fits
    pub total_fits : total ≤ all_ids
    total_fits = omega (arith, h.counted, number_le rows all_ids)

    -- the windows from w on
    further : (w : ℕ) {next : ℕ} → v ≡ w + 1 → Found st rows w total next
        → (next + node_number rows (window * w) ≡ node_number rows all_ids)
        × ((id : ℕ) → window * w ≤ id → id < all_ids → T (used rows id) → fault st id ≡ 0)
    further w e f = (
      omega (arith, h.counted, f.counted, ap (λ (k : ℕ). node_number rows (window * k)) e),
      λ id l u t. elim (lt_or id (window * v)) [
        | inl i ↦ f.placed id l (omega (arith, e)) t
        | inr i ↦ h.placed id i u t
      ],
    )

    pub survey_more : {w next : ℕ} → v ≡ w + 1 → 0 < w → Found st rows w total next → Surveyed st rows w next
    survey_more {w} e p f =
        let all = further w e f in
        record { some = p; few = omega (arith, h.few, e); counted = all.0; placed = all.1 }

    pub survey_done : {next : ℕ} {new : List ℕ} → v ≡ 1 → Found st rows 0 total next → Windowed (window * 0) rows new
        → Counted st rows next new
    survey_done e f m =
        let all = further 0 e f in
        record { counted = omega (arith, all.0, number_le rows 0); placed = λ id l t. all.1 id (omega arith) l t; first = m }
