-- What moving leaves behind by document 01's order and document 02's choice, and what every table that moves have reached says of its points.
-- Assumes nothing.
--     outset_long, outset_at, ..   the table at the outset
--     state_at_suc, state_at_ahead   one turn more; points ahead are as at the outset
--     state_at_reached              it was reached from the outset by moves
--     state_settled                the state table is settled: above all, so reached
--     state_entry                  the byte of a point: what it chose at its turn, or as it was at the outset
-- What its bytes say, whatever moves reached them:
--     reached_byte, reached_move, reached_zero, reached_rests
--                                  0, the mark of a label that was zero from the start, or the code of a cut that violates
--     mark_said, zero_said, move_said
--                                  F-8: the byte is 15 exactly if the label is zero from the start, not 0 exactly if it is zero, and
--                                  1 to 14 exactly if the point moved; of the state table so too turn_said, skin_said
use Prim.Native.Nat.{ℕ, zero, suc, ◌≤◌, ◌<◌}
use native.Mathlib.Omega.{arith}
use mathlib.Core.Path.{◌≡◌, refl, sym, ap, subst, ◌∙◌}
use mathlib.Core.Logic.{◌⊎◌, inl, inr}
use mathlib.Core.Bool.{Bool, true, false, not, ◌||◌, ◌&&◌}
use mathlib.Core.List.{List}
use lib.Dec.{T, eqb}
use lib.ListN.{length, get_or, length-map, get_or-eq_default}
use borrow.Author.Tests.{eq-eqb, ne_eqb}
use Rattle.std.specs.Prelude.{if◌then◌else◌}
use Rattle.basics.specs.Lists.{below}
use Rattle.basics.proofs.Test.{T_true, false_F, true_T, lt_or, Member}
use Rattle.basics.proofs.Mapped.{map_at, from_length, from_at}
use Rattle.basics.proofs.Gather.{below_lt, below_i}
use Rattle.lattice.specs.Counts.{points}
use Rattle.moving.specs.declared.Label.{Label}
use Rattle.moving.specs.declared.Label.TheVariants.{Minus, Zero, Plus}
use Rattle.moving.specs.State.{is_move, skin_mark, says_zero}
use Rattle.moving.specs.Reading.{Reading, label_after}
use Rattle.moving.specs.Order.{turn}
use Rattle.moving.specs.Moving.{mark_of, choice, outset, state_at, state_of}
use Rattle.moving.specs.Label.{is_zero}
use Rattle.moving.proofs.Settled.{NonZero, MayMove, Reached, Settled}
use Rattle.moving.proofs.Bytes.{same_or, code_move, zero_rests, mark_rests, label_still, label_moved, nonzero_outset}
use Rattle.moving.proofs.Run.{start, run_reached}
use Rattle.moving.proofs.Turns.{entry_of, turn_entry, turn_other, move_by_suc, move_by_other, move_by_length}
use Rattle.moving.proofs.Taking.{run_move_by, order_settles}
use Rattle.moving.proofs.Choice.{choice_sound, choice_chooser}

-- the mark is that of the label zero
mark_zero : (l : Label) → l ≡ Zero → mark_of l ≡ skin_mark
unfolding mark_of is_zero
mark_zero l e = rw e refl

mark_nonzero : (l : Label) → NonZero l → mark_of l ≡ 0
unfolding mark_of is_zero
mark_nonzero Minus t = refl
mark_nonzero Zero t = absurd t
mark_nonzero Plus t = refl

mark_still : (l : Label) → is_move (mark_of l) ≡ false
unfolding mark_of is_move is_zero
mark_still Minus = refl
mark_still Zero = refl
mark_still Plus = refl

nonzero : (l : Label) → NonZero l → is_zero l ≡ false
unfolding is_zero
nonzero Minus t = refl
nonzero Zero t = absurd t
nonzero Plus t = refl

-- a label is zero, or not
pub zero_or : (l : Label) → (l ≡ Zero) ⊎ NonZero l
unfolding is_zero
zero_or Minus = inr tt
zero_or Zero = inl refl
zero_or Plus = inr tt

module _ (m : Reading) where
  pub outset_long : length (outset m) ≡ points m.sizes
  unfolding outset
  outset_long = length-map (below (points m.sizes)) (λ p. mark_of (m.label p)) ∙ from_length 0 (points m.sizes)

  pub outset_at : (p : ℕ) → p < points m.sizes → get_or (outset m) p 0 ≡ mark_of (m.label p)
  unfolding outset
  outset_at p h =
      let n = points m.sizes in
      map_at (λ p. mark_of (m.label p)) (below n) p 0 0 (omega (arith, from_length 0 n))
      ∙ ap (λ (k : ℕ). mark_of (m.label k)) (from_at 0 n p h ∙ omega arith)

  -- no byte of it is a move
  pub outset_none : (p : ℕ) → p < points m.sizes → is_move (get_or (outset m) p 0) ≡ false
  outset_none p h = ap is_move (outset_at p h) ∙ mark_still (m.label p)

  pub outset_mark : (p : ℕ) → p < points m.sizes → m.label p ≡ Zero → get_or (outset m) p 0 ≡ skin_mark
  outset_mark p h z = outset_at p h ∙ mark_zero (m.label p) z

  -- beyond the table an entry reads 0
  pub outset_still : (p : ℕ) → NonZero (m.label p) → get_or (outset m) p 0 ≡ 0
  outset_still p t =
      elim (lt_or p (points m.sizes)) [
        | inl l ↦ outset_at p l ∙ mark_nonzero (m.label p) t
        | inr l ↦ get_or-eq_default (outset m) 0 (omega (arith, outset_long))
      ]

  pub state_at_long : (n : ℕ) → length (state_at m n) ≡ points m.sizes
  unfolding state_at
  state_at_long n = move_by_length (choice m) (below n) (outset m) ∙ outset_long

  pub state_at_suc : (n : ℕ) → state_at m (suc n) ≡ turn (choice m) (state_at m n) n
  unfolding state_at
  state_at_suc n = move_by_suc (choice m) n (outset m)

  pub state_at_ahead : (n p : ℕ) → n ≤ p → get_or (state_at m n) p 0 ≡ get_or (outset m) p 0
  unfolding state_at
  state_at_ahead n p h = move_by_other (choice m) (below n) (outset m) p (λ i. absurd (omega (arith, below_lt n i)))

  pub state_at_reached : (n : ℕ) → n ≤ points m.sizes → Reached m (outset m) (state_at m n)
  unfolding state_at
  state_at_reached n h =
      let only : (p : ℕ) → Member p (below n) → p < points m.sizes = λ p i. omega (arith, below_lt n i) in
      run_reached outset_long (run_move_by (choice_sound m) outset_long (below n) only start)

  -- what a point chose at its turn stays, or its byte is still that of the outset
  taken : (n p : ℕ) → p < n → get_or (state_at m n) p 0 ≡ get_or (state_at m (suc p)) p 0
  taken zero p h = absurd (omega arith)
  taken (suc n) p h =
      elim (same_or p n) [
        | inl e ↦ rw e refl
        | inr k ↦
            ap (λ (t : List ℕ). get_or t p 0) (state_at_suc n)
            ∙ turn_other (choice m) (state_at m n) n p (λ e. absurd (k e))
            ∙ taken n p (omega (arith, k))
      ]

  pub state_entry : (p : ℕ) → p < points m.sizes → get_or (state_of m) p 0 ≡ entry_of (choice m (state_at m p) p) (mark_of (m.label p))
  state_entry p h =
      taken (points m.sizes) p h
      ∙ ap (λ (t : List ℕ). get_or t p 0) (state_at_suc p)
      ∙ turn_entry (choice m) (state_at m p) p (omega (arith, state_at_long p))
      ∙ ap (entry_of (choice m (state_at m p) p)) (state_at_ahead p p (omega arith) ∙ outset_at p h)

  -- so it moved at its turn exactly if the byte is a move
  pub turn_said : (p : ℕ) → p < points m.sizes → is_move (choice m (state_at m p) p) ≡ is_move (get_or (state_of m) p 0)
  turn_said p h = go (is_move (choice m (state_at m p) p)) refl ∙ sym (ap is_move (state_entry p h))
    where
      go : (b : Bool) → is_move (choice m (state_at m p) p) ≡ b → b ≡ is_move (if b then choice m (state_at m p) p else mark_of (m.label p))
      go true e = sym e
      go false e = sym (mark_still (m.label p))

  pub state_settled : Settled m (outset m) (state_of m)
  unfolding state_at
  state_settled =
      order_settles (below (points m.sizes)) (choice_chooser m) outset_long
      (λ p i. below_lt (points m.sizes) i) (λ p h. below_i (points m.sizes) p h)

  pub state_reached : Reached m (outset m) (state_of m)
  state_reached = state_settled.reached

  module _ {codes : List ℕ} (r : Reached m (outset m) codes) where
    -- what the byte of a point says
    pub data Says (p : ℕ) : Type 0 where
      -- 0: its label is not zero
      still : get_or codes p 0 ≡ 0 → NonZero (m.label p) → Says p
      -- the mark: its label was zero from the start
      marked : get_or codes p 0 ≡ skin_mark → m.label p ≡ Zero → Says p
      -- the code of a cut that violates it
      moved : MayMove m (outset m) p (get_or codes p 0) → Says p

    pub reached_byte : (p : ℕ) → p < points m.sizes → Says p
    reached_byte p h =
        elim (r.entry p) [
          | inl e ↦ elim (zero_or (m.label p)) [
            | inl z ↦ marked (e ∙ outset_mark p h z) z
            | inr t ↦ still (e ∙ outset_still p t) t
          ]
          | inr v ↦ moved v
        ]

    -- so a point that moved may so move
    pub reached_move : (p : ℕ) → p < points m.sizes → T (is_move (get_or codes p 0)) → MayMove m (outset m) p (get_or codes p 0)
    reached_move p h t = go (reached_byte p h)
      where
        go : Says p → MayMove m (outset m) p (get_or codes p 0)
        go (still e _) = absurd (false_F _ (zero_rests (get_or codes p 0) e) t)
        go (marked e _) = absurd (false_F _ (mark_rests (get_or codes p 0) e) t)
        go (moved v) = v

    -- one whose label is zero moved, or its label was zero from the start
    pub reached_zero : (p : ℕ) → p < points m.sizes → label_after m.label codes p ≡ Zero
        → T (is_move (get_or codes p 0)) ⊎ (m.label p ≡ Zero)
    reached_zero p h z = go (reached_byte p h)
      where
        go : Says p → T (is_move (get_or codes p 0)) ⊎ (m.label p ≡ Zero)
        go (still e _) = inr (sym (label_still m.label codes p e) ∙ z)
        go (marked _ e) = inr e
        go (moved v) = inl (true_T _ (code_move (get_or codes p 0) v.1.edge.code))

    -- a point whose label is zero from the start never moves
    pub reached_rests : (p : ℕ) → p < points m.sizes → m.label p ≡ Zero → get_or codes p 0 ≡ skin_mark
    unfolding is_zero
    reached_rests p h z = go (reached_byte p h)
      where
        go : Says p → get_or codes p 0 ≡ skin_mark
        go (still _ t) = absurd (subst NonZero z t)
        go (marked e _) = e
        go (moved v) = absurd (subst NonZero z (nonzero_outset m.label (outset m) p v.1.here))

    -- a byte is the mark exactly if the label is zero from the start
    pub mark_said : (p : ℕ) → p < points m.sizes → is_zero (m.label p) ≡ eqb (get_or codes p 0) skin_mark
    unfolding is_zero
    mark_said p h = go (reached_byte p h)
      where
        go : Says p → is_zero (m.label p) ≡ eqb (get_or codes p 0) skin_mark
        go (still e t) = nonzero (m.label p) t ∙ sym (ne_eqb (get_or codes p 0) skin_mark (λ z. omega arith))
        go (marked e z) = rw (z, eq-eqb (get_or codes p 0) skin_mark e) refl
        go (moved v) =
            nonzero (m.label p) (nonzero_outset m.label (outset m) p v.1.here)
            ∙ sym (ne_eqb (get_or codes p 0) skin_mark (λ z. omega (arith, v.1.edge.code.high)))

    -- a point's label is zero exactly if its state byte is not 0
    pub zero_said : (p : ℕ) → p < points m.sizes → is_zero (label_after m.label codes p) ≡ says_zero (get_or codes p 0)
    unfolding is_zero
    zero_said p h = go (reached_byte p h)
      where
        some : (get_or codes p 0 ≡ 0 → ⊥) → is_zero (label_after m.label codes p) ≡ says_zero (get_or codes p 0)
        some n = rw (label_moved m.label codes p n, ne_eqb (get_or codes p 0) 0 n) refl

        go : Says p → is_zero (label_after m.label codes p) ≡ says_zero (get_or codes p 0)
        go (still e t) = rw (label_still m.label codes p e, eq-eqb (get_or codes p 0) 0 e) (nonzero (m.label p) t)
        go (marked e _) = some (λ z. omega arith)
        go (moved v) = some (λ z. omega (arith, v.1.edge.code.low))

    -- and the point moved, its label being zero now and not at the outset, exactly if the byte is 1 to 14
    pub move_said : (p : ℕ) → p < points m.sizes
        → (is_zero (label_after m.label codes p) && not (is_zero (m.label p))) ≡ is_move (get_or codes p 0)
    unfolding is_zero
    move_said p h = go (reached_byte p h)
      where
        neither : (b : Bool) → (b && not b) ≡ false
        neither true = refl
        neither false = refl

        go : Says p → (is_zero (label_after m.label codes p) && not (is_zero (m.label p))) ≡ is_move (get_or codes p 0)
        go (still e _) =
            rw (label_still m.label codes p e, zero_rests (get_or codes p 0) e) (neither (is_zero (m.label p)))
        go (marked e z) = rw (label_moved m.label codes p (λ n. omega arith), mark_rests (get_or codes p 0) e, z) refl
        go (moved v) =
            let code = v.1.edge.code in
            let some : get_or codes p 0 ≡ 0 → ⊥ = λ z. omega (arith, code.low) in
            rw (label_moved m.label codes p some, code_move (get_or codes p 0) code)
            (T_true _ (nonzero_outset m.label (outset m) p v.1.here))

  -- by what a point was and chose: its byte is not 0 exactly if its label was zero from the start, or it moved at its turn
  pub skin_said : (p : ℕ) → p < points m.sizes
      → (is_zero (m.label p) || is_move (choice m (state_at m p) p)) ≡ says_zero (get_or (state_of m) p 0)
  unfolding is_zero
  skin_said p h = go (reached_byte state_reached p h)
    where
      byte : ℕ
      byte = get_or (state_of m) p 0

      go : Says state_reached p → (is_zero (m.label p) || is_move (choice m (state_at m p) p)) ≡ says_zero byte
      go (still e t) = rw (nonzero (m.label p) t, turn_said p h, zero_rests byte e, eq-eqb byte 0 e) refl
      go (marked e z) = rw (z, ne_eqb byte 0 (λ n. omega arith)) refl
      go (moved v) =
          let code = v.1.edge.code in
          let here = nonzero_outset m.label (outset m) p v.1.here in
          rw (nonzero (m.label p) here, turn_said p h, code_move byte code, ne_eqb byte 0 (λ n. omega (arith, code.low))) refl
