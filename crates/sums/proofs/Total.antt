-- The sum of a filled block's six-volumes is not below 0. Assumes nothing.
use Prim.Native.Nat.{ℕ, zero, suc, ◌+◌, ◌≤◌}
use native.Mathlib.Omega.{arith}
use native.Mathlib.Numerals.{add-one}
use mathlib.Core.Path.{◌≡◌, refl, sym, ap, ap₂, ◌∙◌}
use mathlib.Core.List.{List}
use lib.IntN.{ℤ, pos, nat_abs, ◌+ℤ◌}
use Rattle.basics.specs.Lists.{from}
use Rattle.lattice.specs.declared.Sizes.{Sizes}
use Rattle.stencil.specs.Row.{Row}
use Rattle.geometry.specs.Place.{place_of}
use Rattle.filling.specs.Mesh.{row_volume}
use Rattle.filling.specs.Demand.{row_read, rows_read}
use Rattle.boundary.specs.Sum.{sum}
use Rattle.boundary.proofs.Sums.{sum_snoc}
use Rattle.sums.specs.inner.Measured.{Measured}
use Rattle.sums.proofs.Volume.{above}
use Rattle.sums.proofs.Added.{rows_more}

module _ {s : Sizes} {cuts state rows : List ℕ} {count : ℕ} (w : Measured s cuts state rows count) where
  abbrev volume : Row ℕ → ℤ
  volume = row_volume (place_of s cuts state)

  -- some number is what the first i rows add up to
  adds : (i : ℕ) → i ≤ count → (total : ℕ) × (pos total ≡ sum volume (rows_read rows i))
  unfolding rows_read sum from
  adds zero h = (0, refl)
  adds (suc i) h =
      let before = adds i (omega arith) in
      let x = row_read rows i in
      let up : pos (nat_abs (volume x)) ≡ volume x = above (volume x) (w.positive i (omega arith)) in (
        before.0 + nat_abs (volume x),
        ap₂ ◌+ℤ◌ before.1 up ∙ sym (sum_snoc volume (rows_read rows i) x)
            ∙ ap (sum volume) (sym (rows_more rows i) ∙ ap (rows_read rows) (add-one i)),
      )

  pub total_above : pos (nat_abs (sum volume (rows_read rows count))) ≡ sum volume (rows_read rows count)
  total_above =
      let all = adds count (omega arith) in
      ap (λ (z : ℤ). pos (nat_abs z)) (sym all.1) ∙ all.1
