-- Windows that no entry is in are left out of the second round. Assumes nothing.
--     skipped         no id from window v on and before window w is in use
--     reached_skip    what is reached at v is reached at w
use Prim.Native.Nat.{ℕ, ◌+◌, ◌*◌, ◌-◌, ◌/◌, ◌≤◌, ◌<◌}
use native.Mathlib.Omega.{arith}
use mathlib.Core.Path.{◌≡◌, sym, ap, subst, ◌∙◌}
use mathlib.Core.Logic.{inl, inr}
use mathlib.Core.Bool.{false}
use mathlib.Core.List.{List}
use lib.ListN.{length, get_or}
use Rattle.basics.proofs.Test.{false_F, lt_or}
use Rattle.places.specs.declared.stored.Stored.{Stored}
use Rattle.windows.specs.inner.Windows.{window, Spread, Missed, NextHit}
use Rattle.windows.proofs.Missing.{missed_unused}
use Rattle.numbering.specs.Nodes.{used, node_number}
use Rattle.numbering.proofs.Used.{used_at, number_gap}
use Rattle.numbering.proofs.Table.{table_to, table_gap}
use Rattle.nodes.specs.inner.Rounds.{settled, Filled, Reached}
use Rattle.nodes.proofs.Surveying.{spread_known}
use Rattle.nodes.proofs.Settling.{settled_low, settled_high}

module _ {hits rows : List ℕ} {n v w : ℕ} (spread : Spread hits rows (length rows)) (next : NextHit hits n v w) (e : n ≡ length rows) where
  pub skipped : (id : ℕ) → window * v ≤ id → id < window * w → used rows id ≡ false
  skipped id l u =
      let x = id / window in
      let q : window * x + (id - window * x) ≡ id = omega arith in
      let missed = subst (λ (k : ℕ). Missed hits k x) e (next.missed x (omega arith) (omega arith)) in
      ap (used rows) (sym q) ∙ missed_unused (spread_known spread x) missed (id - window * x) (omega arith)

  gap : window * v + (window * w - window * v) ≡ window * w
  gap = omega (arith, next.low)

  none : (j : ℕ) → j < window * w - window * v → used rows (window * v + j) ≡ false
  none j l = skipped (window * v + j) (omega arith) (omega arith)

  same : (j : ℕ) → j < length rows → settled rows (window * v) (get_or rows j 0) ≡ settled rows (window * w) (get_or rows j 0)
  same j l =
      let id = get_or rows j 0 in
      elim (lt_or id (window * v)) [
        | inl a ↦ settled_low rows (window * v) id a ∙ sym (settled_low rows (window * w) id (omega (arith, next.low)))
        | inr a ↦ elim (lt_or id (window * w)) [
          | inl b ↦ absurd (false_F _ (skipped id a b) (used_at rows j l))
          | inr b ↦ settled_high rows (window * v) id a ∙ sym (settled_high rows (window * w) id b)
        ]
      ]

  pub reached_skip : {st : Stored} {first at : ℕ} {now old new : List ℕ} → Reached st rows v first at now old new
      → Reached st rows w first at now old new
  reached_skip {st} {at = at} {old = old} {new = new} h =
      record {
        counted = h.counted ∙ sym (number_gap rows (window * v) (window * w - window * v) none) ∙ ap (node_number rows) gap;
        long = h.long;
        is = λ j l. h.is j l ∙ same j l;
        written =
            subst (λ (t : List ℕ). Filled t old new at)
            (sym (table_gap st.lattice.sizes st.cuts.now st.state.now rows (window * v) (window * w - window * v) none)
            ∙ ap (table_to st.lattice.sizes st.cuts.now st.state.now rows) gap)
            h.written;
      }
