-- Points take their turns: what the loops hold of the state table and of the count. Assumes nothing.
use Prim.Native.Nat.{ℕ, zero, suc, ◌+◌, ◌≤◌, ◌<◌}
use native.Mathlib.Numerals.{add-one}
use native.Mathlib.Omega.{arith}
use mathlib.Core.Path.{◌≡◌, refl, sym, ap, subst, ◌∙◌}
use Rattle.std.proofs.Common.{Option, Some, None}
use mathlib.Core.Logic.{inl, inr}
use mathlib.Core.Bool.{true, false}
use mathlib.Core.List.{List, [], ◌∷◌, ◌++◌, map, map-append}
use lib.Dec.{T}
use lib.ListN.{length, get_or, set, take, length-map}
use lib.Seq.{take_all, take-suc-set}
use Rattle.basics.specs.Lists.{from, below}
use Rattle.lattice.specs.declared.Site.{Site}
use Rattle.lattice.specs.declared.edge_code.EdgeCode.{EdgeCode}
use Rattle.lattice.specs.Axis.{along_x}
use Rattle.basics.proofs.Test.{lt_or}
use Rattle.basics.proofs.Mapped.{from_length}
use Rattle.lattice.specs.Counts.{Sized, grid, points}
use Rattle.lattice.specs.Direction.{Code}
use Rattle.lattice.specs.inner.Site.{Sited}
use Rattle.moving.specs.declared.Label.{Label}
use Rattle.moving.specs.State.{is_move}
use Rattle.moving.specs.Reading.{Reading}
use Rattle.moving.specs.Order.{move_by}
use Rattle.moving.specs.Moving.{mark_of, choice, outset, state_at, state_of}
use Rattle.moving.proofs.Settled.{Reached}
use Rattle.moving.proofs.Bytes.{code_move, move_code}
use Rattle.moving.proofs.Turns.{from_suc, turn_still, turn_moves}
use Rattle.moving.proofs.Moved.{outset_none, state_at_long, state_at_suc, state_at_ahead, state_at_reached}
use Rattle.filling.specs.Fill.{moved_count}
use Rattle.ranges.specs.inner.Blank.{Blank}
use Rattle.lines.specs.inner.Lines.{Line}
use Rattle.lines.proofs.Lines.{line_own}
use Rattle.lines.proofs.Sites.{site_lt}
use Rattle.warp.specs.inner.Quick.{Bare, outset_of}
use Rattle.warp.specs.inner.Turns.{chosen, Turn}
use Rattle.warp.proofs.Counted.{counted_move, counted_few, counted_none}
use Rattle.warp.proofs.Quiet.{bare_stays, bare_table}

-- one byte of the outset more
pub marked_more : (label : ℕ → Label) (t : List ℕ) (p b : ℕ) → p < length t → take p t ≡ outset_of label p → b ≡ mark_of (label p)
    → take (p + 1) (set t p b) ≡ outset_of label (p + 1)
unfolding outset_of
marked_more label t p b h e f =
    ap (λ (k : ℕ). take k (set t p b)) (add-one p)
    ∙ take-suc-set t p b h
    ∙ (λ i. e i ++ f i ∷ [])
    ∙ sym
    (ap (λ (k : ℕ). map byte (below k)) (add-one p)
    ∙ ap (map byte) (from_suc 0 p)
    ∙ map-append byte (below p) ((0 + p) ∷ [])
    ∙ ap (λ (k : ℕ). map byte (below p) ++ byte k ∷ []) (omega arith))
  where
    byte : ℕ → ℕ
    byte q = mark_of (label q)

pub marked_long : (label : ℕ → Label) (n : ℕ) → length (outset_of label n) ≡ n
unfolding outset_of
marked_long label n = length-map (below n) (λ p. mark_of (label p)) ∙ from_length 0 n

pub marked_all : (label : ℕ → Label) (t : List ℕ) (p n : ℕ) → p ≡ n → length t ≡ n → take p t ≡ outset_of label p → t ≡ outset_of label n
marked_all label t p n e l z = sym (take_all p t (omega arith)) ∙ z ∙ ap (outset_of label) e

-- of the codes and 0 only 0 is no move
rests_zero : (c : ℕ) → c ≤ 14 → is_move c ≡ false → c ≡ 0
rests_zero c few n =
    elim (lt_or 0 c) [
      | inl l ↦ absurd (subst T (sym (code_move c (record { low = l; high = few })) ∙ n) tt)
      | inr l ↦ omega arith
    ]

module _ (m : Reading) where
  -- a point that chooses nothing
  rests : (p : ℕ) → choice m (state_at m p) p ≡ 0 → state_at m (p + 1) ≡ state_at m p
  rests p z = rw (add-one p) (state_at_suc m p ∙ turn_still (choice m) (state_at m p) p z)

  -- a point that chooses a code
  moves : (p : ℕ) → Code (choice m (state_at m p) p)
      → state_at m (p + 1) ≡ set (state_at m p) p (choice m (state_at m p) p)
  moves p k = rw (add-one p) (state_at_suc m p ∙ turn_moves (choice m) (state_at m p) p k)

  -- so many points without a cut from p on leave the table as it is
  pub bare_passed : (p n : ℕ) → ((x : ℕ) → x < n → Bare m.sizes m.cuts (p + x)) → state_at m (p + n) ≡ state_at m p
  bare_passed p zero b = let e : p + 0 ≡ p = omega arith in ap (state_at m) e
  bare_passed p (suc n) b =
      let e : p + suc n ≡ p + n + 1 = omega arith in
      ap (state_at m) e
      ∙ rests (p + n) (bare_stays m (state_at m (p + n)) (p + n) (b n (omega arith)))
      ∙ bare_passed p n (λ x l. b x (omega arith))

  -- a turn starts from a table that moves have reached
  module _ {q : Site} {state : List ℕ} (t : Turn m q state) where
    pub turn_long : length state ≡ points m.sizes
    turn_long = ap length t.state_is ∙ state_at_long m q.own

    module _ (z : Sized m.sizes) where
      pub turn_below : q.own < points m.sizes
      turn_below = site_lt m.sizes q z t.sited

      pub turn_reached : Reached m (outset m) state
      turn_reached = subst (Reached m (outset m)) (sym t.state_is) (state_at_reached m q.own (omega (arith, turn_below)))

  -- x of the points of a line have had their turns, and those that moved are counted
  pub record Walked (own len : ℕ) (before state : List ℕ) (moved x : ℕ) : Type 0 where
    pub high : x ≤ len
    pub is : state ≡ state_at m (own + x)
    pub counted : moved + moved_count before ≡ moved_count state

  pub walked_starts : {own len : ℕ} {state : List ℕ} → state ≡ state_at m own → Walked own len state state 0 0
  walked_starts {own} e =
      let z : own ≡ own + 0 = omega arith in
      record { high = omega arith; is = e ∙ ap (state_at m) z; counted = omega arith }

  module _ {own len : ℕ} {before state : List ℕ} {moved x : ℕ} (w : Walked own len before state moved x) (h : x < len) where
    abbrev p : ℕ
    p = own + x

    -- the next of its points takes its turn
    pub walked_turn : {q : Site} → q.own ≡ own + x → Sited m.sizes q → Turn m q state
    walked_turn e g = record { sited = g; state_is = w.is ∙ ap (state_at m) (sym e) }

    pub walked_long : length state ≡ points m.sizes
    walked_long = ap length w.is ∙ state_at_long m p

    pub walked_inside : own + len ≤ points m.sizes → p < length state
    walked_inside l = omega (arith, walked_long)

    here : choice m state p ≡ choice m (state_at m p) p
    here = ap (λ (t : List ℕ). choice m t p) w.is

    next : own + x + 1 ≡ own + (x + 1)
    next = omega arith

    pub walked_reached : own + len ≤ points m.sizes → Reached m (outset m) state
    walked_reached l = subst (Reached m (outset m)) (sym w.is) (state_at_reached m p (omega arith))

    pub walked_rests : {more c : ℕ} {after : List ℕ} → choice m state p ≡ c → c ≤ 14 → is_move c ≡ false → after ≡ state → more ≡ moved
        → Walked own len before after more (x + 1)
    walked_rests {more} {c} e few n f g =
        let z = rests_zero c few n in
        record {
          high = omega arith;
          is = f ∙ w.is ∙ sym (rests p (sym here ∙ e ∙ z)) ∙ ap (state_at m) next;
          counted = ap (λ (k : ℕ). k + moved_count before) g ∙ w.counted ∙ ap moved_count (sym f);
        }

    pub walked_moves : {more c : ℕ} {after : List ℕ} → own + len ≤ points m.sizes → choice m state p ≡ c → is_move c ≡ true
        → after ≡ set state p c → more ≡ moved + 1 → Walked own len before after more (x + 1)
    walked_moves {more} {c} {after} l e n f g =
        record { high = omega arith; is = after_is; counted = omega (arith, w.counted, one, ap moved_count f) }
      where
        chosen : choice m (state_at m p) p ≡ c
        chosen = sym here ∙ e

        code : Code c
        code = move_code c n

        after_is : after ≡ state_at m (own + (x + 1))
        after_is = f ∙ (λ i. set (w.is i) p (sym chosen i)) ∙ sym (moves p (subst Code (sym chosen) code)) ∙ ap (state_at m) next

        ahead : is_move (get_or state p 0) ≡ false
        ahead =
            ap (λ (t : List ℕ). is_move (get_or t p 0)) w.is
            ∙ ap is_move (state_at_ahead m p p (omega arith))
            ∙ outset_none m p (omega arith)

        one : moved_count (set state p c) ≡ moved_count state + 1
        one = counted_move state p c (walked_inside l) ahead code

    -- the same from what the turn of the point at `here` chose
    module _ {here : ℕ} (o : Option EdgeCode) (at : here ≡ own + x) (e : chosen o ≡ choice m state here) where
      its : choice m state (own + x) ≡ chosen o
      its = ap (choice m state) (sym at) ∙ sym e

      pub walked_stays : {more : ℕ} {after : List ℕ} → o ≡ None → after ≡ state → more ≡ moved → Walked own len before after more (x + 1)
      unfolding is_move
      walked_stays n f g = walked_rests (its ∙ ap chosen n) (omega arith) refl f g

      pub walked_goes : {more : ℕ} {after : List ℕ} {c : EdgeCode} → own + len ≤ points m.sizes → o ≡ Some c → after ≡ set state here c.code → more ≡ moved + 1
          → Walked own len before after more (x + 1)
      walked_goes {c = c} l n f g =
          walked_moves l (its ∙ ap chosen n) (code_move c.code c.names_edge) (f ∙ ap (λ (p : ℕ). set state p c.code) at) g

  -- the whole line has had its turns
  pub walked_whole : {own len : ℕ} {before state : List ℕ} {moved x : ℕ} → Walked own len before state moved x
      → len ≤ x → (g : ℕ) → len ≡ g → state ≡ state_at m (own + g)
  walked_whole {own} {x = x} w h g e = let all : own + x ≡ own + g = omega (arith, w.high) in w.is ∙ ap (state_at m) all

  -- the points before p have had their turns
  pub record Passed (p : ℕ) (state : List ℕ) (moved : ℕ) : Type 0 where
    pub is : state ≡ state_at m p
    pub counted : moved ≡ moved_count state

  -- none has, and the table is that of the outset
  module _ {state : List ℕ} (e : state ≡ outset_of m.label (points m.sizes)) where
    pub none_passed : Passed 0 state 0
    unfolding outset_of outset state_at move_by from
    none_passed = record { is = e; counted = none_counted }
      where
        none_counted : 0 ≡ moved_count state
        none_counted = sym (counted_none m) ∙ ap moved_count (sym e)

    -- without a cut none will
    pub never_moved : Blank m.cuts 0 (length m.cuts) → (state ≡ state_of m) × (0 ≡ moved_count (state_of m))
    never_moved z = (is, none_passed.counted ∙ ap moved_count is)
      where
        is : state ≡ state_of m
        is =
            let e : 0 + points m.sizes ≡ points m.sizes = omega arith in
            none_passed.is ∙ sym (bare_passed 0 (points m.sizes) (λ x l. bare_table m.sizes m.cuts (0 + x) z)) ∙ ap (state_at m) e

  module _ {state : List ℕ} {moved p : ℕ} (w : Passed p state moved) where
    pub passed_long : length state ≡ points m.sizes
    passed_long = ap length w.is ∙ state_at_long m p

    -- no more points have moved than there are
    pub passed_few : {walked : List ℕ} (k r : ℕ) → walked ≡ state_at m k → r + moved_count state ≡ moved_count walked
        → moved + r ≤ points m.sizes
    passed_few {walked} k r e d = omega (arith, w.counted, counted_few walked, ap length e, state_at_long m k)

    -- all points have had their turns
    pub passed_whole : p ≡ points m.sizes → (state ≡ state_of m) × (moved ≡ moved_count (state_of m))
    passed_whole e =
        let is : state ≡ state_of m = w.is ∙ ap (state_at m) e in
        (is, w.counted ∙ ap moved_count is)

    -- a line more
    module _ {q : Site} (line : Line m.sizes p q) where
      -- the table, by the line's own number
      pub passed_state : state ≡ state_at m q.own
      passed_state = w.is ∙ ap (state_at m) (sym (line_own line))

      after : q.own + grid m.sizes q.kind along_x ≡ p + grid m.sizes q.kind along_x
      after = ap (λ (n : ℕ). n + grid m.sizes q.kind along_x) (line_own line)

      pub passed_bare : {state' : List ℕ} {moved' : ℕ}
          → ((x : ℕ) → x < grid m.sizes q.kind along_x → Bare m.sizes m.cuts (q.own + x))
          → state' ≡ state → moved' ≡ moved → Passed (p + grid m.sizes q.kind along_x) state' moved'
      passed_bare b f g =
          record {
            is = f ∙ passed_state ∙ sym (bare_passed q.own (grid m.sizes q.kind along_x) b) ∙ ap (state_at m) after;
            counted = g ∙ w.counted ∙ ap moved_count (sym f);
          }

      pub passed_walked : {state' walked : List ℕ} {moved' : ℕ} (r : ℕ)
          → walked ≡ state_at m (q.own + grid m.sizes q.kind along_x) → r + moved_count state ≡ moved_count walked
          → state' ≡ walked → moved' ≡ moved + r → Passed (p + grid m.sizes q.kind along_x) state' moved'
      passed_walked r k d f g =
          record {
            is = f ∙ k ∙ ap (state_at m) after;
            counted = omega (arith, w.counted, ap moved_count f);
          }
