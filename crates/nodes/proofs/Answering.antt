-- What the call answers, from what the rounds found. Assumes nothing.
--     says, says_same            an answer and two tables are what the outcome says; so under other names
--     some_first, beyond_first   an id past the windows, or without a place, is some entry's
--     all_in                     every id in use has a place
--     unplaced_said, short_said, written_said, quads_said    the answers
--     tables_said                tables of which every place is refused by one number
use Prim.Native.Nat.{ℕ, ◌+◌, ◌*◌, ◌-◌, ◌%◌, ◌≤◌, ◌<◌}
use native.Mathlib.Omega.{arith}
use mathlib.Core.Path.{◌≡◌, refl, sym, ap, ◌∙◌}
use mathlib.Core.Bool.{Bool, true, false}
use mathlib.Core.List.{List, [], map}
use lib.Dec.{T, eqb}
use lib.ListN.{length, get_or}
use borrow.Author.Tests.{eq-eqb, eqb-true, eqb-false, lt-ltb, le-ltb, le-leb}
use Rattle.std.specs.Prelude.{Option, Some, MatchOption, Ok, Err}
use Rattle.basics.proofs.Test.{F-false}
use Rattle.lattice.specs.declared.Sizes.{Sizes}
use Rattle.lattice.specs.Counts.{points, sizes_fit, Sized}
use Rattle.lattice.proofs.Bounds.{points_small}
use Rattle.lattice.proofs.Sized.{fits_sized, sized_fits}
use Rattle.filling.specs.Fill.{overwritten}
use Rattle.filling.specs.Located.{believable, id_fault, locate}
use Rattle.lines.proofs.Points.{points_some}
use Rattle.refusals.specs.declared.Refusal.{Refusal}
use Rattle.refusals.specs.declared.Refusal.TheVariants.{Quads}
use Rattle.refusals.specs.inner.Numbers.{refusal_number}
use Rattle.places.specs.declared.stored.Stored.{Stored}
use Rattle.windows.specs.inner.Windows.{Beyond, Spread}
use Rattle.numbering.specs.declared.Numbered.{Numbered}
use Rattle.numbering.specs.Nodes.{used, node_number, node_table, Outcome, refused, number}
use Rattle.numbering.specs.inner.Whole.{Whole}
use Rattle.numbering.proofs.Used.{used_at, used_where, number_gap}
use Rattle.numbering.proofs.Places.{placed_below, locate_number, all_placed, some_unplaced}
use Rattle.numbering.proofs.Checks.{size_refused, cuts_refused, state_refused, rows_refused, unplaced, short, accepted}
use Rattle.coordinates.specs.declared.RefusedEntry.{RefusedEntry}
use Rattle.coordinates.specs.inner.Marked.{fault, first, FirstRefused}
use Rattle.nodes.specs.declared.refused.Refused.TheVariants.{Call, Entry, Short}
use Rattle.nodes.specs.inner.Answer.{answer_of, Says}
use Rattle.nodes.specs.inner.Rounds.{all_ids, SomeUnplaced, Counted, AllIn}

pub says : (s : Sizes) (cuts state rows nodes : List ℕ) {o : Outcome} {r : Numbered} {after news : List ℕ}
    → number s cuts state rows nodes ≡ o → r ≡ o.answer → after ≡ o.rows → news ≡ o.nodes → Says s cuts state rows nodes r after news
says s cuts state rows nodes e a b c =
    record {
      is_answer = a ∙ ap (λ (o : Outcome). o.answer) (sym e);
      is_rows = b ∙ ap (λ (o : Outcome). o.rows) (sym e);
      is_nodes = c ∙ ap (λ (o : Outcome). o.nodes) (sym e);
    }

-- of the same tables under other names
pub says_same : {s v : Sizes} {cuts others state states rows nodes after news : List ℕ} {r : Numbered} → s ≡ v → cuts ≡ others
    → state ≡ states → Says s cuts state rows nodes r after news → Says v others states rows nodes r after news
says_same a b c h = rw (← a, ← b, ← c) h

whole : (st : Stored) (rows : List ℕ) → length rows % 4 ≡ 0 → Whole st.lattice.sizes st.cuts.now st.state.now rows
whole st rows q = record { sized = st.lattice.sized; cuts_long = st.cuts_long; state_long = st.state_long; rows_whole = q }

module _ (st : Stored) where
  abbrev sizes : Sizes
  sizes = st.lattice.sizes

  abbrev cuts : List ℕ
  cuts = st.cuts.now

  abbrev state : List ℕ
  state = st.state.now

  -- no id past the windows has a place
  small : 8 * points sizes ≤ all_ids
  small = omega (arith, points_small sizes st.lattice.sized)

  module _ (rows : List ℕ) where
    pub some_first : SomeUnplaced st rows → first st rows < length rows
    some_first u = some_unplaced sizes cuts state rows u.id u.in_use u.faulty

    pub beyond_first : Beyond rows → first st rows < length rows
    beyond_first b =
        some_unplaced sizes cuts state rows (get_or rows b.at 0) (used_at rows b.at b.within)
        (λ e. absurd (omega (arith, placed_below sizes cuts state (get_or rows b.at 0) e, b.past, small)))

    -- every id in use has a place
    module _ {hits bits : List ℕ} {total : ℕ} (spread : Spread hits rows (length rows)) (g : Counted st rows total bits) where
      placed : (id : ℕ) → T (used rows id) → fault st id ≡ 0
      placed id t =
          let w = used_where rows id t in
          g.placed id (omega (arith, spread.inside w.0 w.1, w.2)) t

      all_first : first st rows ≡ length rows
      all_first = all_placed sizes cuts state rows placed

      pub all_in : AllIn st rows hits
      all_in = record { spread = spread; placed = placed }

      past : (id : ℕ) → 8 * points sizes ≤ id → used rows id ≡ false
      past id l = F-false _ (λ t. absurd (omega (arith, placed_below sizes cuts state id (placed id t))))

      -- the count is that of the ids below 8N
      count_is : total ≡ node_number rows (8 * points sizes)
      count_is =
          let n = 8 * points sizes in
          let q : n + (all_ids - n) ≡ all_ids = omega (arith, small) in
          g.counted ∙ ap (node_number rows) (sym q) ∙ number_gap rows n (all_ids - n) (λ j u. past (n + j) (omega arith))

      module _ (q : length rows % 4 ≡ 0) (nodes : List ℕ) where
        -- too short a node table, or the nodes written
        pub short_said : length nodes < 4 * total → Says sizes cuts state rows nodes (answer_of (Err (Short total))) rows nodes
        unfolding answer_of
        short_said l =
            says sizes cuts state rows nodes (short sizes cuts state rows nodes (whole st rows q) all_first (omega (arith, l, count_is)))
            (ap (λ (k : ℕ). record { number = 10; nodes = k; place = 0 }) count_is) refl refl

        pub written_said : {after news : List ℕ} → 4 * total ≤ length nodes → after ≡ map (node_number rows) rows
            → news ≡ overwritten (node_table sizes cuts state rows) nodes → Says sizes cuts state rows nodes (answer_of (Ok total)) after news
        unfolding answer_of
        written_said l a b =
            says sizes cuts state rows nodes (accepted sizes cuts state rows nodes (whole st rows q) all_first (omega (arith, l, count_is)))
            (ap (λ (k : ℕ). record { number = 0; nodes = k; place = 0 }) count_is) a b

    -- the refusal at the first entry without a place
    pub unplaced_said : (q : length rows % 4 ≡ 0) (nodes : List ℕ) (e : RefusedEntry) → FirstRefused st rows e.entry e.refusal
        → Says sizes cuts state rows nodes (answer_of (Err (Entry e))) rows nodes
    unfolding answer_of
    unplaced_said q nodes e f =
        says sizes cuts state rows nodes (unplaced sizes cuts state rows nodes (whole st rows q) (omega (arith, f.is_first, f.within)))
        (ap (λ (n : ℕ). record { number = n; nodes = 0; place = e.entry }) f.is_why
        ∙ ap (λ (k : ℕ). record { number = fault st (get_or rows k 0); nodes = 0; place = k }) f.is_first)
        refl refl

    -- the refusal of a row table of no whole rows
    pub quads_said : (nodes : List ℕ) → (length rows % 4 ≡ 0 → ⊥) → Says sizes cuts state rows nodes (answer_of (Err (Call Quads))) rows nodes
    unfolding answer_of refusal_number
    quads_said nodes n =
        says sizes cuts state rows nodes
        (rows_refused sizes cuts state rows nodes st.lattice.sized st.cuts_long st.state_long n) refl refl refl

pub refused_entry : (st : Stored) (rows : List ℕ) {r : Option RefusedEntry} {e : RefusedEntry}
    → MatchOption r (first st rows ≡ length rows) (λ e. FirstRefused st rows e.entry e.refusal) → r ≡ Some e
    → FirstRefused st rows e.entry e.refusal
refused_entry st rows f q = rw q at f

-- the place call's numbers of wrong sizes and lengths
module _ (s : Sizes) (cuts state : List ℕ) (id : ℕ) where
  size_law : sizes_fit s ≡ false → (locate s cuts state id).number ≡ 1
  unfolding locate
  size_law e = rw e refl

  cuts_law : Sized s → eqb (length cuts) (7 * points s) ≡ false → (locate s cuts state id).number ≡ 3
  unfolding locate
  cuts_law z e = rw (sized_fits s z, e) refl

  state_law : Sized s → length cuts ≡ 7 * points s → eqb (length state) (points s) ≡ false → (locate s cuts state id).number ≡ 4
  unfolding locate
  state_law z c e = rw (sized_fits s z, eq-eqb _ _ c, e) refl

-- tables of which every place is refused by one number
module _ (s : Sizes) (cuts state : List ℕ) (n : ℕ) (all : (id : ℕ) → n ≡ (locate s cuts state id).number) where
  -- among tables of the right lengths point 0 is not refused as an id past all others is
  differ : 0 < points s → n ≡ id_fault s cuts state 0 → n ≡ id_fault s cuts state (8 * points s) → ⊥
  unfolding id_fault
  differ some a b = go (believable s cuts state 0) refl
    where
      past : n ≡ 8
      past = b ∙ rw (le-ltb (8 * points s) (points s) (omega arith), le-leb (8 * points s) (8 * points s) (omega arith)) refl

      go : (t : Bool) → believable s cuts state 0 ≡ t → ⊥
      go true e = let q : n ≡ 0 = a ∙ rw (lt-ltb 0 (points s) some, e) refl in omega (arith, past)
      go false e = let q : n ≡ 9 = a ∙ rw (lt-ltb 0 (points s) some, e) refl in omega (arith, past)

  none_whole : Whole s cuts state [] → ⊥
  none_whole h = differ (points_some s h.sized) (all 0 ∙ locate_number h 0) (all (8 * points s) ∙ locate_number h (8 * points s))

  refused_by : (rows nodes : List ℕ) → number s cuts state rows nodes ≡ refused s cuts state rows nodes n 0 0
  refused_by rows nodes = sizes (sizes_fit s) refl
    where
      by : ℕ → Outcome
      by k = refused s cuts state rows nodes k 0 0

      states : (z : Sized s) → length cuts ≡ 7 * points s → (b : Bool) → eqb (length state) (points s) ≡ b
          → number s cuts state rows nodes ≡ by n
      states z c true e =
          absurd (none_whole (record { sized = z; cuts_long = c; state_long = eqb-true _ _ e; rows_whole = refl }))
      states z c false e =
          state_refused s cuts state rows nodes z c (eqb-false _ _ e) ∙ ap by (sym (all 0 ∙ state_law s cuts state 0 z c e))

      tables : (z : Sized s) (b : Bool) → eqb (length cuts) (7 * points s) ≡ b → number s cuts state rows nodes ≡ by n
      tables z true e = states z (eqb-true _ _ e) (eqb (length state) (points s)) refl
      tables z false e = cuts_refused s cuts state rows nodes z (eqb-false _ _ e) ∙ ap by (sym (all 0 ∙ cuts_law s cuts state 0 z e))

      sizes : (b : Bool) → sizes_fit s ≡ b → number s cuts state rows nodes ≡ by n
      sizes true e = tables (fits_sized s e) (eqb (length cuts) (7 * points s)) refl
      sizes false e = size_refused s cuts state rows nodes e ∙ ap by (sym (all 0 ∙ size_law s cuts state 0 e))

pub tables_said : (s : Sizes) (cuts state rows nodes : List ℕ) (why : Refusal)
    → ((id : ℕ) → refusal_number why ≡ (locate s cuts state id).number)
    → Says s cuts state rows nodes (answer_of (Err (Call why))) rows nodes
unfolding answer_of
tables_said s cuts state rows nodes why all =
    says s cuts state rows nodes (refused_by s cuts state (refusal_number why) all rows nodes) refl refl refl
