-- F-2, "Move to the nearest cut", compared: M, and what the place call answers, by the table of document 01's choice and by today's. Both are
-- counted and asked by today's definitions. Of every reading; nothing is assumed.
--
-- The old table is `state_before` (F2Theorems): with F-8's mark, so what would stand today without F-2.
--     moved_as_before   M is the same
--     located_or_two    an id has the same answer, or it is a point that two cuts violated at its turn
use Prim.Native.Nat.{ℕ, ◌-◌, ◌/◌, ◌%◌, ◌≤◌, ◌<◌}
use mathlib.Core.Path.{◌≡◌, refl, sym, ap, subst, ◌∙◌}
use mathlib.Core.Logic.{◌⊎◌, inl, inr}
use mathlib.Core.Bool.{not, ◌&&◌}
use lib.ListN.{length, get_or}
use lib.Dec.{eqb}
use borrow.Author.Tests.{eq-eqb, ne_eqb, lt-ltb, le-ltb}
use Rattle.std.proofs.Common.{None, Option, Some}
use Rattle.basics.proofs.Test.{lt_or}
use Rattle.basics.proofs.Search.{count_same}
use Rattle.lattice.specs.Counts.{points}
use Rattle.lattice.specs.Direction.{as_start}
use Rattle.lattice.specs.Edge.{neighbour, byte_at}
use Rattle.moving.specs.declared.Label.{Label}
use Rattle.moving.specs.Label.{is_zero}
use Rattle.moving.specs.State.{is_move, says_zero}
use Rattle.moving.specs.Reading.{Reading}
use Rattle.moving.specs.Moving.{state_at, state_of}
use Rattle.moving.proofs.Bytes.{same_or}
use Rattle.moving.proofs.Moved.{state_reached, move_said}
use Rattle.geometry.specs.Place.{point_place, place_of}
use Rattle.filling.specs.Fill.{moved_count}
use Rattle.filling.specs.Located.{reaches, believable, stands_to, stands, id_fault, locate}
use Rattle.history.proofs.F2SamePoints.{TwoViolate, same_label}
use Rattle.history.proofs.F2Theorems.{state_before, same_points, same_byte_or_two, before_reached}

module _ (m : Reading) where
  long : length (state_before m) ≡ length (state_of m)
  long = (before_reached m).long ∙ sym (state_reached m).long

  same_mark : (p : ℕ) → says_zero (get_or (state_before m) p 0) ≡ says_zero (get_or (state_of m) p 0)
  same_mark p =
      elim (same_or (get_or (state_before m) p 0) 0) [
        | inl z ↦ ap not (eq-eqb _ _ z ∙ sym (eq-eqb _ _ ((same_points m).to p z)))
        | inr n ↦ ap not (ne_eqb _ _ n ∙ sym (ne_eqb _ _ (λ z. n ((same_points m).back p z))))
      ]

  same_move : (p : ℕ) → p < points m.sizes → is_move (get_or (state_before m) p 0) ≡ is_move (get_or (state_of m) p 0)
  same_move p l =
      sym (move_said m (before_reached m) p l)
      ∙ ap (λ (z : Label). is_zero z && not (is_zero (m.label p))) (same_label m (same_points m) p)
      ∙ move_said m (state_reached m) p l

  pub moved_as_before : moved_count (state_before m) ≡ moved_count (state_of m)
  unfolding moved_count
  moved_as_before =
      rw long
      (count_same (λ p. is_move (get_or (state_before m) p 0)) (λ p. is_move (get_or (state_of m) p 0)) (length (state_of m))
      (λ p l. same_move p (subst (λ (n : ℕ). p < n) (state_reached m).long l)))

  -- an id's refusal and its place decide the answer
  same_answer : (id : ℕ) → id_fault m.sizes m.cuts (state_before m) id ≡ id_fault m.sizes m.cuts (state_of m) id
      → place_of m.sizes m.cuts (state_before m) id ≡ place_of m.sizes m.cuts (state_of m) id
      → locate m.sizes m.cuts (state_before m) id ≡ locate m.sizes m.cuts (state_of m) id
  unfolding locate
  same_answer id f p = rw (long, f, p) refl

  -- a point with the same byte
  same_point : (p : ℕ) → p < points m.sizes → get_or (state_before m) p 0 ≡ get_or (state_of m) p 0
      → locate m.sizes m.cuts (state_before m) p ≡ locate m.sizes m.cuts (state_of m) p
  unfolding id_fault believable reaches place_of point_place
  same_point p l e = same_answer p (rw (lt-ltb _ _ l, e) refl) (rw (lt-ltb _ _ l, e) refl)

  same_stands : (o : ℕ) → stands m.sizes m.cuts (state_before m) o ≡ stands m.sizes m.cuts (state_of m) o
  unfolding stands stands_to
  same_stands o = go (neighbour m.sizes (o / 7) (as_start (o % 7)))
    where
      go : (n : Option ℕ) → stands_to m.sizes m.cuts (state_before m) (o / 7) (o % 7) n
          ≡ stands_to m.sizes m.cuts (state_of m) (o / 7) (o % 7) n
      go None = refl
      go (Some q) = λ i. not (eqb (get_or m.cuts (byte_at (o / 7) (o % 7)) 0) 0) && (not (same_mark (o / 7) i) && not (same_mark q i))

  same_cut : (id : ℕ) → points m.sizes ≤ id
      → locate m.sizes m.cuts (state_before m) id ≡ locate m.sizes m.cuts (state_of m) id
  unfolding id_fault place_of
  same_cut id l = same_answer id (rw (le-ltb _ _ l, same_stands (id - points m.sizes)) refl) (rw (le-ltb _ _ l) refl)

  pub located_or_two : (id : ℕ)
      → (locate m.sizes m.cuts (state_before m) id ≡ locate m.sizes m.cuts (state_of m) id)
      ⊎ ((id < points m.sizes) × TwoViolate m (state_at m id) id)
  located_or_two id =
      elim (lt_or id (points m.sizes)) [
        | inl l ↦ elim (same_byte_or_two m id) [ inl e ↦ inl (same_point id l e) | inr two ↦ inr (l, two) ]
        | inr l ↦ inl (same_cut id l)
      ]
