-- Filling's refusals, each from the plain facts that lead to it, in the papers' order. Assumes nothing.
use Prim.Native.Nat.{ℕ, ◌*◌, ◌≤◌, ◌<◌}
use mathlib.Core.Path.{◌≡◌, sym, ap}
use mathlib.Core.Bool.{true, false}
use mathlib.Core.List.{List}
use lib.ListN.{length}
use borrow.Author.Tests.{eq-eqb, ne_eqb, lt-ltb, le-ltb}
use Rattle.lattice.specs.Counts.{sizes_fit, points}
use Rattle.moving.specs.Label.{band_fits}
use Rattle.moving.specs.Block.{Block, reading_of}
use Rattle.filling.specs.Fill.{Outcome, refused, written, fill}
use Rattle.filling.proofs.Accepted.{fault_in, rim_of, cut_of}
use Rattle.stuffing.specs.inner.Fills.{Fills}

module _ (band : ℕ) (b : Block) (state rows : List ℕ) where
  -- an outcome, part by part
  pub fills : (o : Outcome) → fill band b state rows ≡ o → Fills band b state rows o.answer o.state o.rows
  fills o e =
      record {
        answer = sym (ap (λ (o : Outcome). o.answer) e);
        state_is = sym (ap (λ (o : Outcome). o.state) e);
        rows_are = sym (ap (λ (o : Outcome). o.rows) e);
      }

  pub refusal : (n at : ℕ) → fill band b state rows ≡ refused state rows n at
      → Fills band b state rows (record { number = n; rows = 0; moved = 0; place = at }) state rows
  refusal n at e = fills (refused state rows n at) e

  pub by_size : sizes_fit b.sizes ≡ false → fill band b state rows ≡ refused state rows 1 0
  unfolding fill
  by_size e = simp e

  pub by_band : sizes_fit b.sizes ≡ true → band_fits band ≡ false → fill band b state rows ≡ refused state rows 14 0
  unfolding fill
  by_band fit e = simp (fit, e)

  module _ (fit : sizes_fit b.sizes ≡ true) (banded : band_fits band ≡ true) where
    pub by_samples : (length b.samples ≡ points b.sizes → ⊥) → fill band b state rows ≡ refused state rows 2 0
    unfolding fill
    by_samples n = simp (fit, banded, ne_eqb _ _ n)

    module _ (samples : length b.samples ≡ points b.sizes) where
      pub by_cuts : (length b.cuts ≡ 7 * points b.sizes → ⊥) → fill band b state rows ≡ refused state rows 3 0
      unfolding fill
      by_cuts n = simp (fit, banded, eq-eqb _ _ samples, ne_eqb _ _ n)

      module _ (cuts : length b.cuts ≡ 7 * points b.sizes) where
        pub by_state : (length state ≡ points b.sizes → ⊥) → fill band b state rows ≡ refused state rows 4 0
        unfolding fill
        by_state n = simp (fit, banded, eq-eqb _ _ samples, eq-eqb _ _ cuts, ne_eqb _ _ n)

        module _ (long : length state ≡ points b.sizes) where
          pub by_rim : rim_of band b < points b.sizes → fill band b state rows ≡ refused state rows 5 (rim_of band b)
          unfolding fill
          by_rim h = simp (fit, banded, eq-eqb _ _ samples, eq-eqb _ _ cuts, eq-eqb _ _ long, lt-ltb _ _ h)

          pub by_byte_law : points b.sizes ≤ rim_of band b → cut_of band b < 7 * points b.sizes
              → fill band b state rows ≡ refused state rows (fault_in band b (cut_of band b)) (cut_of band b)
          unfolding fill
          by_byte_law r h = simp (fit, banded, eq-eqb _ _ samples, eq-eqb _ _ cuts, eq-eqb _ _ long, le-ltb _ _ r, lt-ltb _ _ h)

          pub by_none : points b.sizes ≤ rim_of band b → 7 * points b.sizes ≤ cut_of band b
              → fill band b state rows ≡ written state rows (reading_of band b)
          unfolding fill
          by_none r h = simp (fit, banded, eq-eqb _ _ samples, eq-eqb _ _ cuts, eq-eqb _ _ long, le-ltb _ _ r, le-ltb _ _ h)
