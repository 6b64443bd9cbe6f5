-- The second round, window by window: nodes written and rows rewritten so far. Assumes nothing.
--     reached_none                  before the first window
--     first_fits                    numbers fit
--     spare_starts, write_room      the spare part is in the table, and there is room for the window's nodes
--     reached_on, assigned_next     the window's nodes written and its entries rewritten; the next window marked
--     known_now, known_next         the hits still say where the entries of a window are
--     rows_done, nodes_done         after the last window
use Prim.Native.Nat.{ℕ, ◌+◌, ◌*◌, ◌-◌, ◌^◌, ◌≤◌, ◌<◌}
use native.Mathlib.Omega.{arith}
use mathlib.Core.Path.{◌≡◌, refl, sym, ap, subst, ◌∙◌}
use mathlib.Core.Bool.{false}
use mathlib.Core.List.{List, ◌++◌, map}
use lib.ListN.{length, get_or, take, drop, length-append, length-map}
use lib.Seq.{ext_get_or}
use Rattle.basics.specs.Lists.{gather, from, below, count}
use Rattle.basics.specs.inner.Writing.{Wrote}
use Rattle.basics.proofs.Test.{F-false}
use Rattle.basics.proofs.Part.{back}
use Rattle.basics.proofs.Gather.{two_parts, below_lt}
use Rattle.basics.proofs.Mapped.{map_at, gather_same}
use Rattle.places.specs.declared.stored.Stored.{Stored}
use Rattle.lattice.specs.Counts.{points}
use Rattle.lattice.proofs.Bounds.{points_small}
use Rattle.bitmap.specs.inner.Bits.{marked}
use Rattle.windows.specs.inner.Windows.{window, windows, Spread, Known, Windowed, put_in, Rewrites}
use Rattle.numbering.specs.Nodes.{used, node_number, node, node_table}
use Rattle.numbering.proofs.Used.{number_le, number_grows}
use Rattle.numbering.proofs.Table.{table_to, table_long, table_gap}
use Rattle.numbering.proofs.Places.{placed_below}
use Rattle.coordinates.specs.inner.Marked.{node_if}
use Rattle.nodes.specs.inner.Rounds.{all_ids, settled, AllIn, Filled, Reached, Assigned}
use Rattle.nodes.proofs.Surveying.{window_count}
use Rattle.nodes.proofs.Settling.{settled_low, settled_high, still_known, windowed_back, settled_next}
use Rattle.nodes.proofs.Filled.{spare_long, spare_front, filled_none, filled_kept, filled_more, filled_whole}

-- one window more
module _ {st : Stored} {rows : List ℕ} where
  pub reached_none : (old : List ℕ) → Reached st rows 0 0 0 rows old old
  unfolding gather from
  reached_none old =
      record {
        counted = omega (arith, number_le rows 0);
        long = refl;
        is = λ j l. sym (settled_high rows 0 (get_or rows j 0) (omega arith));
        written = filled_none old;
      }

  module _ {w first at : ℕ} {now old new bits : List ℕ} (h : Assigned st rows w first at now old new bits) where
    lo : ℕ
    lo = window * w

    up : window * w + window ≡ window * (w + 1)
    up = omega arith

    counted_next : first + count (marked bits) window ≡ node_number rows (window * (w + 1))
    counted_next =
        omega (arith, h.reached.counted, window_count h.marked window (omega arith), ap (node_number rows) up)

    pub first_fits : first + window < 2 ^ 31
    first_fits = omega (arith, h.reached.counted, number_le rows (window * w), h.few)

    -- the nodes of the window's ids
    same_node : (k : ℕ) → k < window
        → node_if st.lattice.sizes st.cuts.now st.state.now (marked bits) (window * w) k
        ≡ node st.lattice.sizes st.cuts.now st.state.now rows (window * w + k)
    unfolding node_if node
    same_node k l = rw (h.marked.is k l) refl

    table_next : gather (node st.lattice.sizes st.cuts.now st.state.now rows) (below (window * (w + 1)))
        ≡ gather (node st.lattice.sizes st.cuts.now st.state.now rows) (below (window * w))
        ++ gather (node_if st.lattice.sizes st.cuts.now st.state.now (marked bits) (window * w)) (below window)
    table_next =
        let f = node st.lattice.sizes st.cuts.now st.state.now rows in
        let g = node_if st.lattice.sizes st.cuts.now st.state.now (marked bits) (window * w) in
        ap (λ (n : ℕ). gather f (below n)) (sym up) ∙ two_parts f (window * w) window
        ∙ ap (λ (l : List ℕ). gather f (below (window * w)) ++ l)
        (sym (gather_same g (λ k. f (window * w + k)) (below window) (λ k m. same_node k (below_lt window m))))

    pub known_now : {hits : List ℕ} → Spread hits rows (length rows) → Known hits now w
    known_now spread = still_known rows now (window * w) h.reached.long h.reached.is w refl spread

    -- the nodes so far and those of the window end before the end of all
    pub before_end : at + 4 * count (marked bits) window ≤ 4 * node_number rows all_ids
    before_end =
        omega (
          arith,
          h.reached.written.at_is,
          table_long st.lattice.sizes st.cuts.now st.state.now rows (window * w),
          h.reached.counted,
          counted_next,
          number_grows rows (window * (w + 1)) all_ids (omega (arith, h.few)),
        )

    -- whatever stands in the spare part meanwhile
    module _ (e : length old ≡ 4 * node_number rows all_ids) where
      pub spare_starts : at ≤ length new
      spare_starts = omega (arith, e, before_end, h.reached.written.long)

      pub write_room : (mid : List ℕ) → length mid ≡ length new → at + 4 * count (marked bits) window ≤ length mid
      write_room mid k = omega (arith, e, before_end, k, h.reached.written.long)

      abbrev mine : List ℕ
      mine = gather (node_if st.lattice.sizes st.cuts.now st.state.now (marked bits) (window * w)) (below window)

      mine_long : length mine ≡ 4 * count (marked bits) window
      mine_long =
          omega (
            arith,
            ap length table_next,
            length-append (table_to st.lattice.sizes st.cuts.now st.state.now rows (window * w)) mine,
            h.reached.counted,
            table_long st.lattice.sizes st.cuts.now st.state.now rows (window * w),
            table_long st.lattice.sizes st.cuts.now st.state.now rows (window * (w + 1)),
            counted_next,
          )

      module _ {to : ℕ} {mid news : List ℕ} (long : length mid ≡ length new)
          (front : (i : ℕ) → i < at → get_or mid i 0 ≡ get_or new i 0) (m : Wrote mine mid at news to) where
        filled_next : Filled (table_to st.lattice.sizes st.cuts.now st.state.now rows (window * (w + 1))) old news to
        filled_next =
            let kept = filled_kept h.reached.written long front in
            let more = filled_more kept m (omega (arith, e, m.to_is, mine_long, before_end)) in
            subst (λ (t : List ℕ). Filled t old news to) (sym table_next) more

        reached_next : {next : ℕ} {after : List ℕ} → next ≡ first + count (marked bits) window
            → Rewrites (put_in bits first (window * w)) (length now) now after → Reached st rows (w + 1) next to after old news
        reached_next n r =
            record {
              counted = n ∙ counted_next;
              long = r.long ∙ h.reached.long;
              is = λ j l.
                  r.done j (omega (arith, h.reached.long)) ∙ ap (put_in bits first (window * w)) (h.reached.is j l)
                  ∙ settled_next first (get_or rows j 0) h.marked h.reached.counted
                  ∙ ap (λ (i : ℕ). settled rows i (get_or rows j 0)) up;
              written = filled_next;
            }

  -- the window done, as the code does it
  pub reached_on : {w first at lo n next to : ℕ} {now old new bits after news : List ℕ} (ys : List ℕ)
      → Assigned st rows w first at now old new bits → length old ≡ 4 * node_number rows all_ids
      → length ys ≡ length (take (length new - at) (drop at new)) → lo ≡ window * w → n ≡ window
      → next ≡ first + count (marked bits) window → Rewrites (put_in bits first (window * w)) (length now) now after
      → Wrote (gather (node_if st.lattice.sizes st.cuts.now st.state.now (marked bits) lo) (below n)) (back at (length new - at) new ys) at news to
      → Reached st rows (w + 1) next to after old news
  reached_on {at = at} ys h e long is_lo is_n counted r m =
      let l = spare_starts h e in
      let front = spare_front _ _ ys l long in
      reached_next h e (spare_long at _ ys l long) front (rw (is_lo, is_n) at m) counted r

  module _ {v first at : ℕ} {now old new : List ℕ} (h : Reached st rows v first at now old new) where
    pub known_next : {hits : List ℕ} → Spread hits rows (length rows) → Known hits now v
    known_next spread = still_known rows now (window * v) h.long h.is v refl spread

    pub assigned_next : {bits : List ℕ} → v < windows → Windowed (window * v) now bits → Assigned st rows v first at now old new bits
    assigned_next l m =
        record { few = l; reached = h; marked = windowed_back rows now (window * v) h.long h.is m }

    -- after the last window
    module _ {hits : List ℕ} (g : AllIn st rows hits) (e : v ≡ windows) where
      pub rows_done : now ≡ map (node_number rows) rows
      rows_done =
          ext_get_or 0 now (map (node_number rows) rows) (h.long ∙ sym (length-map rows (node_number rows)))
          (λ j l.
          let i : j < length rows = omega (arith, h.long) in
          h.is j i ∙ settled_low rows (window * v) (get_or rows j 0) (omega (arith, g.spread.inside j i))
          ∙ sym (map_at (node_number rows) rows j 0 0 i))

      past : (id : ℕ) → 8 * points st.lattice.sizes ≤ id → used rows id ≡ false
      past id l = F-false _ (λ t. absurd (omega (arith, placed_below st.lattice.sizes st.cuts.now st.state.now id (g.placed id t))))

      table_is : table_to st.lattice.sizes st.cuts.now st.state.now rows (window * v) ≡ node_table st.lattice.sizes st.cuts.now st.state.now rows
      unfolding node_table
      table_is =
          let small = points_small st.lattice.sizes st.lattice.sized in
          let n = 8 * points st.lattice.sizes in
          let q : window * v ≡ n + (window * v - n) = omega arith in
          ap (table_to st.lattice.sizes st.cuts.now st.state.now rows) q
          ∙ table_gap st.lattice.sizes st.cuts.now st.state.now rows n (window * v - n) (λ j u. past (n + j) (omega arith))

      pub nodes_done : length old ≡ 4 * node_number rows all_ids → new ≡ node_table st.lattice.sizes st.cuts.now st.state.now rows
      nodes_done r =
          filled_whole h.written
          (table_long st.lattice.sizes st.cuts.now st.state.now rows (window * v)
          ∙ ap (λ (k : ℕ). 4 * node_number rows (window * k)) e ∙ sym r)
          ∙ table_is
