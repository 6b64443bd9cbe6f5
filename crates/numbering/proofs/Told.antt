-- Which check answers: every call is one of four. Assumes nothing.
--     Accepted      what passes every check
--     Told, told    the outcomes by the check that they come from; the call's is one
--     answered      a call that answers 0 passed every check
use Prim.Native.Nat.{ℕ, ◌*◌, ◌%◌, ◌≤◌, ◌<◌}
use native.Mathlib.Omega.{arith}
use mathlib.Core.Path.{◌≡◌, refl}
use mathlib.Core.Logic.{inl, inr}
use mathlib.Core.Bool.{Bool, true, false}
use mathlib.Core.List.{List}
use lib.Dec.{eqb}
use lib.ListN.{length, get_or}
use borrow.Author.Tests.{eqb-true, eqb-false}
use Rattle.basics.proofs.Test.{lt_or}
use Rattle.lattice.specs.declared.Sizes.{Sizes}
use Rattle.lattice.specs.Counts.{sizes_fit, points}
use Rattle.lattice.proofs.Sized.{fits_sized}
use Rattle.filling.specs.Located.{id_fault}
use Rattle.numbering.specs.Nodes.{Outcome, node_count, first_unplaced, refused, numbered, number}
use Rattle.numbering.specs.inner.Whole.{Whole}
use Rattle.numbering.proofs.Places.{first_le, unplaced_fault}
use Rattle.numbering.proofs.Checks.{size_refused, cuts_refused, state_refused, rows_refused, unplaced, short, accepted}

module _ (s : Sizes) (cuts state rows nodes : List ℕ) where
  abbrev call : Outcome
  call = number s cuts state rows nodes

  abbrev refuse : ℕ → ℕ → ℕ → Outcome
  refuse = refused s cuts state rows nodes

  abbrev first : ℕ
  first = first_unplaced s cuts state rows

  abbrev first_fault : ℕ
  first_fault = id_fault s cuts state (get_or rows first 0)

  abbrev needed : ℕ
  needed = node_count s cuts state rows

  -- nothing is refused
  pub record Accepted : Type 0 where
    pub whole : Whole s cuts state rows
    pub all : first ≡ length rows
    pub room : 4 * needed ≤ length nodes

  -- a refusal by sizes and lengths, with a number of its own; at an entry; for want of room; or none
  pub data Told : Outcome → Type 0 where
    by_size : (n : ℕ) → (n ≡ 0 → ⊥) × (n ≡ 8 → ⊥) × (n ≡ 9 → ⊥) × (n ≡ 10 → ⊥) → Told (refuse n 0 0)
    at_entry : Whole s cuts state rows → first < length rows → Told (refuse first_fault 0 first)
    too_short : Whole s cuts state rows → first ≡ length rows → length nodes < 4 * needed → Told (refuse 10 needed 0)
    well : Accepted → Told (numbered s cuts state rows nodes)

  judged : Whole s cuts state rows → Told call
  judged h =
      elim (lt_or first (length rows)) [
        | inl l ↦ rw (unplaced s cuts state rows nodes h l) (at_entry h l)
        | inr l ↦ elim (lt_or (length nodes) (4 * needed)) [
          | inl m ↦ rw (short s cuts state rows nodes h (end l) m) (too_short h (end l) m)
          | inr m ↦ rw (accepted s cuts state rows nodes h (end l) m) (well (record { whole = h; all = end l; room = m }))
        ]
      ]
    where
      end : length rows ≤ first → first ≡ length rows
      end l = omega (arith, first_le s cuts state rows)

  pub told : Told call
  told = go (sizes_fit s) (eqb (length cuts) (7 * points s)) (eqb (length state) (points s)) (eqb (length rows % 4) 0) refl refl refl refl
    where
      go : (f g h i : Bool) → sizes_fit s ≡ f → eqb (length cuts) (7 * points s) ≡ g → eqb (length state) (points s) ≡ h
          → eqb (length rows % 4) 0 ≡ i → Told call
      go false g h i e c t w = rw (size_refused s cuts state rows nodes e) (by_size 1 (omega arith))
      go true false h i e c t w = rw (cuts_refused s cuts state rows nodes (fits_sized s e) (eqb-false _ _ c)) (by_size 3 (omega arith))
      go true true false i e c t w =
          rw (state_refused s cuts state rows nodes (fits_sized s e) (eqb-true _ _ c) (eqb-false _ _ t)) (by_size 4 (omega arith))
      go true true true false e c t w =
          rw (rows_refused s cuts state rows nodes (fits_sized s e) (eqb-true _ _ c) (eqb-true _ _ t) (eqb-false _ _ w)) (by_size 15 (omega arith))
      go true true true true e c t w =
          let sized = fits_sized s e in
          judged (record { sized = sized; cuts_long = eqb-true _ _ c; state_long = eqb-true _ _ t; rows_whole = eqb-true _ _ w })

  pub answered : call.answer.number ≡ 0 → Accepted
  answered e = go call e told
    where
      go : (o : Outcome) → o.answer.number ≡ 0 → Told o → Accepted
      go o e (by_size n h) = absurd (h.0 e)
      go o e (at_entry h l) = absurd (unplaced_fault s cuts state rows l e)
      go o e (too_short h all l) = absurd (omega arith)
      go o e (well a) = a
