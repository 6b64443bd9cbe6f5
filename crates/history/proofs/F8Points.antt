-- F-8, "Mark points that lie on the skin unmoved", compared: the state table without the mark beside today's. Of every reading; nothing
-- is assumed.
--
-- `state_unmarked`, with `nearest_before`, `move_to_before` and `moved_before`, is the table of a reading as it stood before F-8: 0 for every
-- point at the outset, and a choice is compared with 0. Labels while points move, live cuts and violations are read as today: F-8 did
-- not change how.
--     alike            of the two tables: one has 0 and the other the mark where the label is zero from the start; other bytes are the same
--     same_labels      every point has the same label by either
--     marked_only      a state byte is the mark where the label is zero from the start, and else what it is without the mark
--     same_or_rests    a byte is the same, or neither is a move
--     same_move        so the same points move (by the same codes)
--     unmarked_move    without marks a byte that is not 0 is a move
use Prim.Native.Nat.{ℕ, zero, suc, ◌≤◌, ◌<◌}
use native.Mathlib.Omega.{arith}
use mathlib.Core.Path.{◌≡◌, refl, sym, ap, subst, ◌∙◌}
use mathlib.Core.Logic.{◌⊎◌, inl, inr}
use mathlib.Core.Bool.{Bool, true, false, not, ◌&&◌}
use mathlib.Core.List.{List, [], ◌∷◌}
use lib.Dec.{eqb}
use lib.ListN.{length, get_or, set, replicate, length-set, length-replicate, get_or-replicate, get_or-eq_default}
use lib.Seq.{get_or-set_same, get_or-set_other}
use borrow.Author.Tests.{eq-eqb, ne_eqb}
use Rattle.std.specs.Prelude.{if◌then◌else◌, Option, Some, None}
use Rattle.basics.specs.Lists.{from, below}
use Rattle.basics.proofs.Test.{lt_or}
use Rattle.lattice.specs.Counts.{points}
use Rattle.lattice.specs.Direction.{Code}
use Rattle.lattice.specs.Edge.{neighbour}
use Rattle.moving.specs.declared.Label.{Label}
use Rattle.moving.specs.declared.Label.TheVariants.{Minus, Zero, Plus}
use Rattle.moving.specs.Label.{is_zero}
use Rattle.moving.specs.Violation.{violation}
use Rattle.moving.specs.State.{is_move, skin_mark, says_zero}
use Rattle.moving.specs.Nearest.{nearer, nearest_to, nearest}
use Rattle.moving.specs.Reading.{Reading, label_after, live, cut_along, violation_along, violation_by}
use Rattle.moving.specs.Order.{move_to, turn, move_by}
use Rattle.moving.specs.Moving.{choice, outset, state_at, state_of}
use Rattle.moving.proofs.Settled.{NonZero}
use Rattle.moving.proofs.Bytes.{same_or, code_move, zero_rests, mark_rests, nonzero_outset}
use Rattle.moving.proofs.Nearest.{nearest_le}
use Rattle.moving.proofs.Turns.{turn_still, turn_moves, move_by_suc}
use Rattle.moving.proofs.Choice.{choice_sound}
use Rattle.moving.proofs.Moved.{
  zero_or,
  outset_long,
  outset_mark,
  outset_still,
  state_at_suc,
  state_reached,
  Says,
  still,
  marked,
  moved,
  reached_byte,
}

-- the nearest of the codes 1 to n, and a point's new byte
unfoldable pub nearest_before : (ℕ → Option ℕ) → ℕ → ℕ
nearest_before by zero = 0
nearest_before by (suc n) = let c = nearest_before by n in if nearer (by (suc n)) (if eqb c 0 then None else by c) then suc n else c

unfoldable pub move_to_before : List ℕ → ℕ → ℕ → List ℕ
move_to_before codes p c = if eqb c 0 then codes else set codes p c

-- they are those of now, as a choice is 0 or a move
code_before : {A : Type 0} (c : ℕ) → c ≤ 14 → (none some : A) → (if eqb c 0 then none else some) ≡ (if is_move c then some else none)
code_before c l none some =
    elim (same_or c 0) [
      | inl z ↦ rw (eq-eqb c 0 z, zero_rests c z) refl
      | inr n ↦ rw (ne_eqb c 0 n, code_move c (record { low = omega arith; high = l })) refl
    ]

nearest_before_law : (by : ℕ → Option ℕ) (n : ℕ) → n ≤ 14 → nearest_before by n ≡ nearest_to by n
unfolding nearest_before nearest_to
nearest_before_law by zero l = refl
nearest_before_law by (suc n) l =
    let few : nearest_to by n ≤ 14 = omega (arith, nearest_le by n (omega arith)) in
    rw (nearest_before_law by n (omega arith), code_before (nearest_to by n) few None (by (nearest_to by n))) refl

module _ (m : Reading) where
  -- "Points are taken once each, in ascending number"
  unfoldable pub moved_before : List ℕ → List ℕ → List ℕ
  moved_before [] codes = codes
  moved_before (p ∷ order) codes = moved_before order (move_to_before codes p (nearest_before (violation_by m codes p) 14))

  abbrev zeros : List ℕ
  zeros = replicate (points m.sizes) 0

  -- "The state table, N bytes, holds this code, or 0 for a point that did not move"
  unfoldable pub state_unmarked : List ℕ
  state_unmarked = moved_before (below (points m.sizes)) zeros

  -- it is the fold of now, from zeros
  unmarked_at : ℕ → List ℕ
  unmarked_at n = move_by (choice m) (below n) zeros

  moved_before_law : (order codes : List ℕ) → moved_before order codes ≡ move_by (choice m) order codes
  unfolding moved_before move_by turn move_to move_to_before choice
  moved_before_law [] codes = refl
  moved_before_law (p ∷ order) codes =
      let by = violation_by m codes p in
      let c = nearest_to by 14 in
      let turned : move_to_before codes p (nearest_before by 14) ≡ turn (choice m) codes p =
      rw (nearest_before_law by 14 (omega arith)) (code_before c (nearest_le by 14 (omega arith)) codes (set codes p c)) in
      moved_before_law order (move_to_before codes p (nearest_before by 14)) ∙ ap (move_by (choice m) order) turned

  -- what is chosen depends on the labels alone
  choice_same : (s t : List ℕ) → ((p : ℕ) → label_after m.label s p ≡ label_after m.label t p) → (p : ℕ) → choice m s p ≡ choice m t p
  unfolding choice violation_along live
  choice_same s t h p = λ i. nearest (λ c. by c (neighbour m.sizes p c) i)
    where
      by : (c : ℕ) (n : Option ℕ) → violation_along m s p c n ≡ violation_along m t p c n
      by c None = refl
      by c (Some q) = λ i. if not (is_zero (h p i)) && not (is_zero (h q i)) then violation m.rule c (cut_along m p c q) else None

  -- a table without marks and one with them
  pub record Alike (plain marked : List ℕ) : Type 0 where
    pub plain_long : length plain ≡ points m.sizes
    pub marked_long : length marked ≡ points m.sizes
    pub none : (p : ℕ) → m.label p ≡ Zero → get_or plain p 0 ≡ 0
    pub mark : (p : ℕ) → p < points m.sizes → m.label p ≡ Zero → get_or marked p 0 ≡ skin_mark
    pub other : (p : ℕ) → NonZero (m.label p) → get_or marked p 0 ≡ get_or plain p 0

  -- a label that is zero from the start stays so, whatever the bytes
  zero_stays : (t : List ℕ) (p : ℕ) → m.label p ≡ Zero → label_after m.label t p ≡ Zero
  unfolding label_after
  zero_stays t p z = go (says_zero (get_or t p 0))
    where
      go : (b : Bool) → (if b then Zero else m.label p) ≡ Zero
      go true = refl
      go false = z

  alike_labels : {s t : List ℕ} → Alike s t → (p : ℕ) → label_after m.label s p ≡ label_after m.label t p
  unfolding label_after
  alike_labels {s} {t} a p =
      elim (zero_or (m.label p)) [
        | inl z ↦ zero_stays s p z ∙ sym (zero_stays t p z)
        | inr n ↦ rw (a.other p n) refl
      ]

  -- a point whose label was not zero moves
  alike_set : {s t : List ℕ} {p : ℕ} (c : ℕ) → Alike s t → p < points m.sizes → NonZero (m.label p) → Alike (set s p c) (set t p c)
  unfolding is_zero
  alike_set {s} {t} {p} c a h n =
      record {
        plain_long = length-set s p c ∙ a.plain_long;
        marked_long = length-set t p c ∙ a.marked_long;
        none = λ q z. get_or-set_other s p q c 0 (apart q z) ∙ a.none q z;
        mark = λ q l z. get_or-set_other t p q c 0 (apart q z) ∙ a.mark q l z;
        other = λ q k.
            elim (same_or q p) [
              | inl e ↦ rw (e, get_or-set_same s p c 0 (omega (arith, a.plain_long)), get_or-set_same t p c 0 (omega (arith, a.marked_long))) refl
              | inr d ↦ get_or-set_other t p q c 0 d ∙ a.other q k ∙ sym (get_or-set_other s p q c 0 d)
            ];
      }
    where
      apart : (q : ℕ) → m.label q ≡ Zero → q ≡ p → ⊥
      apart q z e = subst NonZero (ap m.label (sym e) ∙ z) n

  alike_turn : {s t : List ℕ} {p : ℕ} → Alike s t → p < points m.sizes → Alike (turn (choice m) s p) (turn (choice m) t p)
  alike_turn {s} {t} {p} a h =
      elim (same_or (choice m s p) 0) [
        | inl z ↦ rw (turn_still (choice m) s p z, turn_still (choice m) t p (sym same ∙ z)) a
        | inr k ↦
            let v = (choice_sound m s p h k).1 in
            let code = v.edge.code in
            rw (turn_moves (choice m) s p code, turn_moves (choice m) t p (subst Code same code), sym same)
            (alike_set (choice m s p) a h (nonzero_outset m.label s p v.here))
      ]
    where
      same : choice m s p ≡ choice m t p
      same = choice_same s t (alike_labels a) p

  alike_outset : Alike zeros (outset m)
  alike_outset =
      record {
        plain_long = length-replicate {A = ℕ} (points m.sizes) 0;
        marked_long = outset_long m;
        none = λ p z. at p;
        mark = outset_mark m;
        other = λ p n. outset_still m p n ∙ sym (at p);
      }
    where
      at : (p : ℕ) → get_or zeros p 0 ≡ 0
      at p =
          elim (lt_or p (points m.sizes)) [
            | inl l ↦ get_or-replicate (points m.sizes) p 0 0 l
            | inr l ↦ get_or-eq_default zeros 0 (rw (length-replicate {A = ℕ} (points m.sizes) 0) l)
          ]

  alike_at : (n : ℕ) → n ≤ points m.sizes → Alike (unmarked_at n) (state_at m n)
  unfolding unmarked_at state_at move_by from
  alike_at zero l = alike_outset
  alike_at (suc n) l = rw (move_by_suc (choice m) n zeros, state_at_suc m n) (alike_turn (alike_at n (omega arith)) (omega arith))

  pub alike : Alike state_unmarked (state_of m)
  unfolding state_unmarked unmarked_at
  alike = rw (moved_before_law (below (points m.sizes)) zeros) (alike_at (points m.sizes) (omega arith))

  pub same_labels : (p : ℕ) → label_after m.label state_unmarked p ≡ label_after m.label (state_of m) p
  same_labels = alike_labels alike

  pub marked_only : (p : ℕ) → p < points m.sizes
      → get_or (state_of m) p 0 ≡ (if is_zero (m.label p) then skin_mark else get_or state_unmarked p 0)
  unfolding is_zero
  marked_only p h = go (m.label p) refl
    where
      go : (l : Label) → m.label p ≡ l → get_or (state_of m) p 0 ≡ (if is_zero l then skin_mark else get_or state_unmarked p 0)
      go Zero e = alike.mark p h e
      go Minus e = alike.other p (rw e tt)
      go Plus e = alike.other p (rw e tt)

  -- no point moves whose label is zero from the start, and any other has the same byte
  pub same_or_rests : (p : ℕ) → (get_or state_unmarked p 0 ≡ get_or (state_of m) p 0)
      ⊎ ((is_move (get_or state_unmarked p 0) ≡ false) × (is_move (get_or (state_of m) p 0) ≡ false))
  same_or_rests p =
      elim (zero_or (m.label p)) [
        | inl z ↦ elim (lt_or p (points m.sizes)) [
          | inl l ↦ inr (zero_rests (get_or state_unmarked p 0) (alike.none p z), mark_rests (get_or (state_of m) p 0) (alike.mark p l z))
          | inr l ↦ inl (alike.none p z ∙ sym (get_or-eq_default (state_of m) 0 (omega (arith, alike.marked_long))))
        ]
        | inr n ↦ inl (sym (alike.other p n))
      ]

  pub unmarked_move : (p : ℕ) → is_move (get_or state_unmarked p 0) ≡ says_zero (get_or state_unmarked p 0)
  unfolding is_zero
  unmarked_move p =
      elim (lt_or p (points m.sizes)) [
        | inl l ↦ elim (zero_or (m.label p)) [
          | inl z ↦ still_zero (alike.none p z)
          | inr n ↦ by_label n (reached_byte m (state_reached m) p l)
        ]
        | inr l ↦ still_zero (get_or-eq_default state_unmarked 0 (omega (arith, alike.plain_long)))
      ]
    where
      still_zero : get_or state_unmarked p 0 ≡ 0 → is_move (get_or state_unmarked p 0) ≡ says_zero (get_or state_unmarked p 0)
      still_zero z = rw (zero_rests (get_or state_unmarked p 0) z, eq-eqb (get_or state_unmarked p 0) 0 z) refl

      by_label : NonZero (m.label p) → Says m (state_reached m) p → is_move (get_or state_unmarked p 0) ≡ says_zero (get_or state_unmarked p 0)
      by_label n (still e _) = still_zero (sym (alike.other p n) ∙ e)
      by_label n (marked _ z) = absurd (subst NonZero z n)
      by_label n (moved v) =
          let code : Code (get_or state_unmarked p 0) = subst Code (alike.other p n) v.1.edge.code in
          rw (code_move (get_or state_unmarked p 0) code, ne_eqb (get_or state_unmarked p 0) 0 (λ z. omega (arith, code.low))) refl

  pub same_move : (p : ℕ) → is_move (get_or state_unmarked p 0) ≡ is_move (get_or (state_of m) p 0)
  same_move p = elim (same_or_rests p) [ inl e ↦ ap is_move e | inr r ↦ r.0 ∙ sym r.1 ]
