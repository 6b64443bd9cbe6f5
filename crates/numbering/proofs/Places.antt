-- Ids with a place and without. Assumes nothing.
--     fault_is, fault_some      the number of an id's refusal is 8 or 9, or 0: then it has a place
--     placed_below              no id of 8N or more has a place
--     locate_number             among tables of the right lengths the place call answers that number
--     first_le                  the first entry without a place is one of the table's, or the table's end
--     placed_before             no entry before the first that has no place is without one
--     unplaced_fault            that entry has none
--     placed_all, all_placed    there is no such entry just where every id in use has a place
--     some_unplaced             an id in use without a place is some entry's
use Prim.Native.Nat.{ℕ, ◌-◌, ◌*◌, ◌≤◌, ◌<◌}
use native.Mathlib.Omega.{arith}
use mathlib.Core.Path.{◌≡◌, refl, sym, ap, subst}
use mathlib.Core.Logic.{◌⊎◌, inl, inr}
use mathlib.Core.Bool.{Bool, true, false, not}
use mathlib.Core.List.{List}
use lib.Dec.{T, eqb, ltb, leb}
use lib.ListN.{length, get_or}
use borrow.Author.Tests.{eq-eqb, eqb-true, ltb-true, leb-false, not-false}
use Rattle.basics.proofs.Test.{false_F, lt_or}
use Rattle.basics.proofs.Search.{lowest_le, lowest_passes, lowest_fails, none_lowest}
use Rattle.lattice.specs.declared.Sizes.{Sizes}
use Rattle.lattice.specs.Counts.{points}
use Rattle.lattice.proofs.Sized.{sized_fits}
use Rattle.filling.specs.Located.{believable, stands, id_fault, locate}
use Rattle.numbering.specs.Nodes.{used, first_unplaced}
use Rattle.numbering.specs.inner.Whole.{Whole}
use Rattle.numbering.proofs.Used.{used_at, used_where}

module _ (s : Sizes) (cuts state : List ℕ) where
  abbrev fault : ℕ → ℕ
  fault = id_fault s cuts state

  -- the three answers of the test, and what is known of the id at each
  pub data Fault (id : ℕ) : ℕ → Type 0 where
    none : id < 8 * points s → Fault id 0
    no_cut : Fault id 8
    no_move : Fault id 9

  pub fault_is : (id : ℕ) → Fault id (fault id)
  unfolding id_fault
  fault_is id =
      go (ltb id (points s)) (believable s cuts state id) (leb (8 * points s) id) (stands s cuts state (id - points s))
      refl refl refl refl
    where
      go : (p b l c : Bool) → ltb id (points s) ≡ p → believable s cuts state id ≡ b → leb (8 * points s) id ≡ l
          → stands s cuts state (id - points s) ≡ c → Fault id (fault id)
      go true true l c e f g h = rw (e, f) (none (omega (arith, ltb-true id (points s) e)))
      go true false l c e f g h = rw (e, f) no_move
      go false b true c e f g h = rw (e, g) no_cut
      go false b false true e f g h = rw (e, g, h) (none (leb-false _ _ g))
      go false b false false e f g h = rw (e, g, h) no_cut

  pub placed_below : (id : ℕ) → fault id ≡ 0 → id < 8 * points s
  placed_below id e = go (fault id) e (fault_is id)
    where
      go : (n : ℕ) → n ≡ 0 → Fault id n → id < 8 * points s
      go n e (none l) = l
      go n e no_cut = absurd (omega arith)
      go n e no_move = absurd (omega arith)

  pub fault_some : (id : ℕ) → (fault id ≡ 0 → ⊥) → (fault id ≡ 8) ⊎ (fault id ≡ 9)
  fault_some id n = go (fault id) n (fault_is id)
    where
      go : (m : ℕ) → (m ≡ 0 → ⊥) → Fault id m → (m ≡ 8) ⊎ (m ≡ 9)
      go m n (none l) = absurd (n refl)
      go m n no_cut = inl refl
      go m n no_move = inr refl

module _ {s : Sizes} {cuts state rows : List ℕ} (h : Whole s cuts state rows) where
  pub locate_number : (id : ℕ) → (locate s cuts state id).number ≡ id_fault s cuts state id
  unfolding locate
  locate_number id = go (eqb (id_fault s cuts state id) 0) refl
    where
      go : (b : Bool) → eqb (id_fault s cuts state id) 0 ≡ b → (locate s cuts state id).number ≡ id_fault s cuts state id
      go true e =
          rw (sized_fits s h.sized, eq-eqb _ _ h.cuts_long, eq-eqb _ _ h.state_long, e) (sym (eqb-true _ _ e))
      go false e = rw (sized_fits s h.sized, eq-eqb _ _ h.cuts_long, eq-eqb _ _ h.state_long, e) refl

module _ (s : Sizes) (cuts state rows : List ℕ) where
  abbrev first : ℕ
  first = first_unplaced s cuts state rows

  abbrev fault_at : ℕ → ℕ
  fault_at i = id_fault s cuts state (get_or rows i 0)

  abbrev missing : ℕ → Bool
  missing i = not (eqb (fault_at i) 0)

  pub first_le : first ≤ length rows
  unfolding first_unplaced
  first_le = lowest_le missing (length rows)

  pub placed_before : (i : ℕ) → i < first → fault_at i ≡ 0
  unfolding first_unplaced
  placed_before i l = eqb-true _ _ (not-false _ (lowest_fails missing (length rows) i l))

  pub unplaced_fault : first < length rows → fault_at first ≡ 0 → ⊥
  unfolding first_unplaced
  unplaced_fault l e = false_F (missing first) (ap not (eq-eqb _ _ e)) (lowest_passes missing (length rows) l)

  pub placed_all : first ≡ length rows → (id : ℕ) → T (used rows id) → id_fault s cuts state id ≡ 0
  placed_all e id t =
      let (j, l, i) = used_where rows id t in
      subst (λ (x : ℕ). id_fault s cuts state x ≡ 0) i (placed_before j (omega arith))

  pub all_placed : ((id : ℕ) → T (used rows id) → id_fault s cuts state id ≡ 0) → first ≡ length rows
  unfolding first_unplaced
  all_placed h = none_lowest missing (length rows) (λ j l. ap not (eq-eqb _ _ (h (get_or rows j 0) (used_at rows j l))))

  pub some_unplaced : (id : ℕ) → T (used rows id) → (id_fault s cuts state id ≡ 0 → ⊥) → first < length rows
  some_unplaced id t n =
      elim (lt_or first (length rows)) [ inl l ↦ l | inr l ↦ absurd (n (placed_all (omega (arith, first_le)) id t)) ]
