-- The order of the node call's checks: one law for each answer. Assumes nothing.
--     size_refused, cuts_refused, state_refused, rows_refused     1, 3, 4, 15
--     unplaced                                                    8 or 9, at the first entry without a place
--     short                                                       10, with the nodes needed
--     accepted                                                    0
use Prim.Native.Nat.{ℕ, ◌*◌, ◌%◌, ◌≤◌, ◌<◌}
use native.Mathlib.Omega.{arith}
use mathlib.Core.Path.{◌≡◌, refl, ◌∙◌}
use mathlib.Core.Bool.{false}
use mathlib.Core.List.{List}
use lib.Dec.{ltb, leb}
use lib.ListN.{length, get_or}
use borrow.Author.Tests.{eq-eqb, ne_eqb, lt-ltb, le-ltb, le-leb, lt-leb}
use Rattle.std.specs.Prelude.{if◌then◌else◌}
use Rattle.lattice.specs.declared.Sizes.{Sizes}
use Rattle.lattice.specs.Counts.{sizes_fit, points, Sized}
use Rattle.lattice.proofs.Sized.{sized_fits}
use Rattle.filling.specs.Located.{id_fault}
use Rattle.numbering.specs.Nodes.{Outcome, node_count, first_unplaced, refused, numbered, numbered_in, number}
use Rattle.numbering.specs.inner.Whole.{Whole}

module _ (s : Sizes) (cuts state rows nodes : List ℕ) where
  abbrev call : Outcome
  call = number s cuts state rows nodes

  abbrev refuse : ℕ → ℕ → ℕ → Outcome
  refuse = refused s cuts state rows nodes

  abbrev first : ℕ
  first = first_unplaced s cuts state rows

  abbrev first_fault : ℕ
  first_fault = id_fault s cuts state (get_or rows first 0)

  abbrev needed : ℕ
  needed = node_count s cuts state rows

  -- 1, 3, 4, 15: each where the ones before it pass
  pub size_refused : sizes_fit s ≡ false → call ≡ refuse 1 0 0
  unfolding number
  size_refused e = rw e refl

  module _ (z : Sized s) where
    pub cuts_refused : (length cuts ≡ 7 * points s → ⊥) → call ≡ refuse 3 0 0
    unfolding number
    cuts_refused n = rw (sized_fits s z, ne_eqb _ _ n) refl

    module _ (c : length cuts ≡ 7 * points s) where
      pub state_refused : (length state ≡ points s → ⊥) → call ≡ refuse 4 0 0
      unfolding number
      state_refused n = rw (sized_fits s z, eq-eqb _ _ c, ne_eqb _ _ n) refl

      pub rows_refused : length state ≡ points s → (length rows % 4 ≡ 0 → ⊥) → call ≡ refuse 15 0 0
      unfolding number
      rows_refused t n = rw (sized_fits s z, eq-eqb _ _ c, eq-eqb _ _ t, ne_eqb _ _ n) refl

  -- then 8 or 9, then 10
  module _ (h : Whole s cuts state rows) where
    passed : call ≡ (if ltb first (length rows) then refuse first_fault 0 first else numbered_in s cuts state rows nodes)
    unfolding number
    passed =
        let fit = sized_fits s h.sized in
        rw (fit, eq-eqb _ _ h.cuts_long, eq-eqb _ _ h.state_long, eq-eqb _ _ h.rows_whole) refl

    pub unplaced : first < length rows → call ≡ refuse first_fault 0 first
    unplaced l = passed ∙ rw (lt-ltb _ _ l) refl

    module _ (e : first ≡ length rows) where
      pub short : length nodes < 4 * needed → call ≡ refuse 10 needed 0
      short l = passed ∙ rw (le-ltb first (length rows) (omega arith), lt-leb _ _ l) refl

      pub accepted : 4 * needed ≤ length nodes → call ≡ numbered s cuts state rows nodes
      accepted l = passed ∙ rw (le-ltb first (length rows) (omega arith), le-leb _ _ l) refl
