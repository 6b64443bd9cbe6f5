-- F-2, "Move to the nearest cut", compared: moving by any two choices, each of which moves a point, to a cut that violates it, exactly if there is
-- one. Both begin with the same table, any one of the right length. Assumes nothing.
--
-- There is no old definition here; F2Theorems takes document 01's choice for the one and today's for the other.
--     SameMoved    of two tables: the same bytes are 0, so from one outset the same points have moved
--     TwoViolate   two live cuts violate a point
--     same_label   where the same points have moved, labels are the same
--     same_moved   points that choose either way move, all of them, exactly if they do the other way
--     same_byte    and a byte is the same, or two cuts violated its point at its turn
use Prim.Native.Nat.{ℕ, zero, suc, ◌<◌, ◌≤◌}
use native.Mathlib.Omega.{arith}
use mathlib.Core.Path.{◌≡◌, refl, sym, ap, subst, ◌∙◌}
use mathlib.Core.Logic.{◌⊎◌, inl, inr}
use mathlib.Core.List.{List}
use lib.ListN.{length, get_or}
use lib.Seq.{get_or-set_same}
use Rattle.basics.specs.Lists.{from, below}
use Rattle.basics.proofs.Gather.{below_lt}
use Rattle.lattice.specs.Counts.{points}
use Rattle.moving.specs.Reading.{Reading, label_after}
use Rattle.moving.specs.Order.{turn, move_by}
use Rattle.moving.proofs.Settled.{NonZero, MayMove}
use Rattle.moving.proofs.Bytes.{same_or, label_still, label_moved}
use Rattle.moving.proofs.Turns.{
  entry_of,
  turn_still,
  turn_moves,
  turn_entry,
  turn_other,
  move_by_other,
  move_by_length,
  move_by_suc,
}
use Rattle.moving.proofs.Taking.{Chooser}

-- the same bytes are 0
pub record SameMoved (s t : List ℕ) : Type 0 where
  pub to : (p : ℕ) → get_or s p 0 ≡ 0 → get_or t p 0 ≡ 0
  pub back : (p : ℕ) → get_or t p 0 ≡ 0 → get_or s p 0 ≡ 0

other_way : {s t : List ℕ} → SameMoved s t → SameMoved t s
other_way h = record { to = h.back; back = h.to }

-- two live cuts violate p
pub record TwoViolate (m : Reading) (codes : List ℕ) (p : ℕ) : Type 0 where
  pub c : ℕ
  pub e : ℕ
  pub two : c ≡ e → ⊥
  pub one : MayMove m codes p c
  pub other : MayMove m codes p e

module _ (m : Reading) {s t : List ℕ} (h : SameMoved s t) where
  pub same_label : (p : ℕ) → label_after m.label s p ≡ label_after m.label t p
  same_label p =
      elim (same_or (get_or s p 0) 0) [
        | inl z ↦ label_still m.label s p z ∙ sym (label_still m.label t p (h.to p z))
        | inr n ↦ label_moved m.label s p n ∙ sym (label_moved m.label t p (λ z. n (h.back p z)))
      ]

  -- so the same cuts are live, and violate the same ends
  same_may_move : {p c : ℕ} → MayMove m s p c → MayMove m t p c
  same_may_move {p} (q, v) = (
    q,
    record {
      edge = v.edge;
      here = subst NonZero (same_label p) v.here;
      there = subst NonZero (same_label q) v.there;
      near = v.near;
    },
  )

module _ {m : Reading} {f g : List ℕ → ℕ → ℕ} (F : Chooser m f) (G : Chooser m g) where
  same_none : {s t : List ℕ} → SameMoved s t → (p : ℕ) → p < points m.sizes → f s p ≡ 0 → g t p ≡ 0
  same_none {s} {t} h p l z =
      elim (same_or (g t p) 0) [
        | inl e ↦ e
        | inr n ↦
            let v = same_may_move m (other_way h) (G.sound t p l n) in
            absurd (F.complete p s z (g t p) v.0 v.1)
      ]

  turn_to : {s t : List ℕ} → SameMoved s t → (p : ℕ) → p < points m.sizes → length s ≡ points m.sizes
      → (q : ℕ) → get_or (turn f s p) q 0 ≡ 0 → get_or (turn g t p) q 0 ≡ 0
  turn_to {s} {t} h p l long q z =
      elim (same_or (f s p) 0) [
        | inl n ↦ rw (turn_still g t p (same_none h p l n)) (h.to q (rw (turn_still f s p n) at z))
        | inr n ↦ elim (same_or q p) [
          | inl e ↦
              let code = (F.sound s p l n).1.edge.code in
              absurd (n (sym (get_or-set_same s p (f s p) 0 (omega arith)) ∙ rw (turn_moves f s p code, e) at z))
          | inr k ↦
              let before : get_or s q 0 ≡ 0 = sym (turn_other f s p q (λ e. absurd (k e))) ∙ z in
              turn_other g t p q (λ e. absurd (k e)) ∙ h.to q before
        ]
      ]

-- the table when the first n points have had their turns
abbrev after : (List ℕ → ℕ → ℕ) → List ℕ → ℕ → List ℕ
after pick s n = move_by pick (below n) s

module _ {m : Reading} {f g : List ℕ → ℕ → ℕ} (F : Chooser m f) (G : Chooser m g) (s : List ℕ)
    (long : length s ≡ points m.sizes) where
  pub same_moved : (n : ℕ) → n ≤ points m.sizes → SameMoved (after f s n) (after g s n)
  unfolding move_by from
  same_moved zero l = record { to = λ p z. z; back = λ p z. z }
  same_moved (suc n) l =
      let h = same_moved n (omega arith) in
      rw (move_by_suc f n s, move_by_suc g n s)
      (record {
        to = turn_to F G h n (omega arith) (move_by_length f (below n) s ∙ long);
        back = turn_to G F (other_way h) n (omega arith) (move_by_length g (below n) s ∙ long);
      })

  -- the byte of a point at its turn
  its_turn : (p : ℕ) → p < points m.sizes
      → (get_or (after f s (suc p)) p 0 ≡ get_or (after g s (suc p)) p 0) ⊎ TwoViolate m (after g s p) p
  its_turn p l = rw (move_by_suc f p s, move_by_suc g p s) (go (same_or (f (after f s p) p) (g (after g s p) p)))
    where
      h : SameMoved (after f s p) (after g s p)
      h = same_moved p (omega arith)

      -- before it the byte is as it was
      before : (pick : List ℕ → ℕ → ℕ) → get_or (after pick s p) p 0 ≡ get_or s p 0
      before pick = move_by_other pick (below p) s p (λ i. absurd (omega (arith, below_lt p i)))

      entry : (pick : List ℕ → ℕ → ℕ)
          → get_or (turn pick (after pick s p) p) p 0 ≡ entry_of (pick (after pick s p) p) (get_or s p 0)
      entry pick =
          turn_entry pick (after pick s p) p (omega (arith, l, move_by_length pick (below p) s, long))
          ∙ ap (entry_of (pick (after pick s p) p)) (before pick)

      go : (f (after f s p) p ≡ g (after g s p) p) ⊎ (f (after f s p) p ≡ g (after g s p) p → ⊥)
          → (get_or (turn f (after f s p) p) p 0 ≡ get_or (turn g (after g s p) p) p 0) ⊎ TwoViolate m (after g s p) p
      go (inl e) = inl (entry f ∙ ap (λ (c : ℕ). entry_of c (get_or s p 0)) e ∙ sym (entry g))
      go (inr n) =
          let some_f : f (after f s p) p ≡ 0 → ⊥ = λ z. n (z ∙ sym (same_none F G h p l z)) in
          let some_g : g (after g s p) p ≡ 0 → ⊥ = λ z. n (same_none G F (other_way h) p l z ∙ sym z) in
          inr
          (record {
            c = f (after f s p) p;
            e = g (after g s p) p;
            two = n;
            one = same_may_move m h (F.sound (after f s p) p l some_f);
            other = G.sound (after g s p) p l some_g;
          })

  pub same_byte : (n p : ℕ) → n ≤ points m.sizes
      → (get_or (after f s n) p 0 ≡ get_or (after g s n) p 0) ⊎ TwoViolate m (after g s p) p
  unfolding move_by from
  same_byte zero p l = inl refl
  same_byte (suc n) p l =
      elim (same_or p n) [
        | inl e ↦ rw e (its_turn n (omega arith))
        | inr k ↦
            let f-still = turn_other f (after f s n) n p (λ e. absurd (k e)) in
            let g-still = turn_other g (after g s n) n p (λ e. absurd (k e)) in
            rw (move_by_suc f n s, move_by_suc g n s, f-still, g-still) (same_byte n p (omega arith))
      ]
