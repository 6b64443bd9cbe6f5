-- What a refusal says and leaves, by the check that it comes from. Assumes nothing. Each is said of any outcome, and shown of the call's.
--     Leaves, leaves         neither table changes
--     First, first_is        8 and 9 are said of the first entry that the place call would refuse, with its number
--     Needed, needed_is      10 comes with the nodes that a longer table would be answered with
--     Zeros, zeros           other refusals have no nodes, other answers no place
use Prim.Native.Nat.{ℕ, ◌*◌, ◌≤◌, ◌<◌}
use native.Mathlib.Omega.{arith}
use mathlib.Core.Path.{◌≡◌, refl, ap, ◌∙◌}
use mathlib.Core.Logic.{◌⊎◌, inl, inr}
use mathlib.Core.List.{List}
use lib.ListN.{length, get_or}
use Rattle.lattice.specs.declared.Sizes.{Sizes}
use Rattle.filling.specs.Located.{id_fault, locate}
use Rattle.numbering.specs.Nodes.{Outcome, first_unplaced, number}
use Rattle.numbering.proofs.Places.{fault_some, locate_number, placed_before, unplaced_fault}
use Rattle.numbering.proofs.Checks.{accepted}
use Rattle.numbering.proofs.Told.{Told, by_size, at_entry, too_short, well, told}

module _ (s : Sizes) (cuts state rows nodes : List ℕ) where
  abbrev call : Outcome
  call = number s cuts state rows nodes

  abbrev By : Outcome → Type 0
  By = Told s cuts state rows nodes

  abbrev pub Leaves : Outcome → Type 0
  Leaves o = (o.answer.number ≡ 0 → ⊥) → (o.rows ≡ rows) × (o.nodes ≡ nodes)

  pub leaves : Leaves call
  leaves = go call (told s cuts state rows nodes)
    where
      go : (o : Outcome) → By o → Leaves o
      go o (by_size m h) n = (refl, refl)
      go o (at_entry h l) n = (refl, refl)
      go o (too_short h all l) n = (refl, refl)
      go o (well a) n = absurd (n refl)

  -- the refusal at the first entry without a place is 8 or 9
  at_first : first_unplaced s cuts state rows < length rows
      → (id_fault s cuts state (get_or rows (first_unplaced s cuts state rows) 0) ≡ 8)
      ⊎ (id_fault s cuts state (get_or rows (first_unplaced s cuts state rows) 0) ≡ 9)
  at_first l = fault_some s cuts state _ (unplaced_fault s cuts state rows l)

  abbrev pub First : Outcome → Type 0
  First o =
      (o.answer.number ≡ 8) ⊎ (o.answer.number ≡ 9)
      → (o.answer.place < length rows)
      × ((locate s cuts state (get_or rows o.answer.place 0)).number ≡ o.answer.number)
      × ((j : ℕ) → j < o.answer.place → (locate s cuts state (get_or rows j 0)).number ≡ 0)

  pub first_is : First call
  first_is = go call (told s cuts state rows nodes)
    where
      go : (o : Outcome) → By o → First o
      go o (by_size m h) n = elim n [ inl e ↦ absurd (h.1 e) | inr e ↦ absurd (h.2 e) ]
      go o (at_entry h l) n =
          (l, locate_number h _, λ j m. locate_number h (get_or rows j 0) ∙ placed_before s cuts state rows j m)
      go o (too_short h all l) n = elim n [ inl e ↦ absurd (omega arith) | inr e ↦ absurd (omega arith) ]
      go o (well a) n = elim n [ inl e ↦ absurd (omega arith) | inr e ↦ absurd (omega arith) ]

  abbrev pub Needed : Outcome → Type 0
  Needed o =
      o.answer.number ≡ 10
      → (length nodes < 4 * o.answer.nodes)
      × ((longer : List ℕ) → 4 * o.answer.nodes ≤ length longer
      → (number s cuts state rows longer).answer ≡ record { number = 0; nodes = o.answer.nodes; place = 0 })

  pub needed_is : Needed call
  needed_is = go call (told s cuts state rows nodes)
    where
      go : (o : Outcome) → By o → Needed o
      go o (by_size m h) n = absurd (h.3 n)
      go o (at_entry h l) n = elim (at_first l) [ inl e ↦ absurd (omega arith) | inr e ↦ absurd (omega arith) ]
      go o (too_short h all l) n =
          (l, λ longer r. ap (λ (o : Outcome). o.answer) (accepted s cuts state rows longer h all r))
      go o (well a) n = absurd (omega arith)

  abbrev pub Zeros : Outcome → Type 0
  Zeros o =
      ((o.answer.number ≡ 0 → ⊥) → (o.answer.number ≡ 10 → ⊥) → o.answer.nodes ≡ 0)
      × ((o.answer.number ≡ 8 → ⊥) → (o.answer.number ≡ 9 → ⊥) → o.answer.place ≡ 0)

  pub zeros : Zeros call
  zeros = go call (told s cuts state rows nodes)
    where
      go : (o : Outcome) → By o → Zeros o
      go o (by_size m h) = (λ n t. refl, λ e f. refl)
      go o (at_entry h l) = (λ n t. refl, λ e f. elim (at_first l) [ inl g ↦ absurd (e g) | inr g ↦ absurd (f g) ])
      go o (too_short h all l) = (λ n t. absurd (t refl), λ e f. refl)
      go o (well a) = (λ n t. absurd (n refl), λ e f. refl)
