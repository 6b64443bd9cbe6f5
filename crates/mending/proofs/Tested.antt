-- The four tests of mending: a block fails one of them, whatever its cut table holds, or it is mended. Assumes nothing.
--     Refuses, Taken, tested   which of the two
--     taken_mends           a block that passes is mended
--     table_long, table_at  the mended table
use Prim.Native.Nat.{ℕ, ◌*◌, ◌<◌}
use native.Mathlib.Omega.{arith}
use mathlib.Core.Path.{◌≡◌, refl, ap, ◌∙◌}
use mathlib.Core.Logic.{◌⊎◌, inl, inr}
use mathlib.Core.Bool.{Bool, true, false}
use mathlib.Core.List.{List}
use lib.Dec.{eqb}
use lib.ListN.{length, get_or, length-map}
use borrow.Author.Tests.{eq-eqb, eqb-true}
use Rattle.basics.specs.Lists.{below}
use Rattle.basics.proofs.Mapped.{map_at, from_length, from_at}
use Rattle.lattice.specs.Counts.{sizes_fit, points}
use Rattle.lattice.proofs.Sized.{fits_sized, sized_fits}
use Rattle.moving.specs.declared.Label.{Label}
use Rattle.moving.specs.Label.{labels, band_fits}
use Rattle.moving.specs.Block.{Block, block_of, Tabled}
use Rattle.mending.specs.Mend.{mended_byte, mended, refused, mend}

-- the block with another cut table
abbrev pub recut : Block → List ℕ → Block
recut b cuts = block_of b.sizes b.samples cuts

module _ (band : ℕ) (b : Block) where
  -- refused with n, by the lengths alone
  pub record Refuses (n : ℕ) : Type 0 where
    pub some : 0 < n
    pub is : (cuts : List ℕ) → length cuts ≡ length b.cuts → mend band (recut b cuts) ≡ refused cuts n

  -- the band is taken, and the tables have the right lengths
  pub record Taken : Type 0 where
    pub fits : band_fits band ≡ true
    pub tabled : Tabled b

  pub tested : ((n : ℕ) × Refuses n) ⊎ Taken
  unfolding mend
  tested = go (sizes_fit b.sizes) (band_fits band) (eqb (length b.samples) n) (eqb (length b.cuts) (7 * n)) refl refl refl refl
    where
      n : ℕ
      n = points b.sizes

      go : (f t g h : Bool) → sizes_fit b.sizes ≡ f → band_fits band ≡ t → eqb (length b.samples) n ≡ g → eqb (length b.cuts) (7 * n) ≡ h
          → ((n : ℕ) × Refuses n) ⊎ Taken
      go false t g h e k i j = inl (1, record { some = omega arith; is = λ cuts l. rw e refl })
      go true false g h e k i j = inl (14, record { some = omega arith; is = λ cuts l. rw (e, k) refl })
      go true true false h e k i j = inl (2, record { some = omega arith; is = λ cuts l. rw (e, k, i) refl })
      go true true true false e k i j = inl (3, record { some = omega arith; is = λ cuts l. rw (e, k, i, l, j) refl })
      go true true true true e k i j =
          inr (record {
            fits = k;
            tabled = record { sized = fits_sized b.sizes e; samples_long = eqb-true _ _ i; cuts_long = eqb-true _ _ j };
          })

  pub taken_mends : Taken → mend band b ≡ mended (labels band b.samples) b
  unfolding mend
  taken_mends h =
      rw
      (sized_fits b.sizes h.tabled.sized, h.fits, eq-eqb _ _ h.tabled.samples_long, eq-eqb _ _ h.tabled.cuts_long)
      refl

module _ (label : ℕ → Label) (b : Block) where
  pub table_long : length (mended label b).cuts ≡ 7 * points b.sizes
  table_long = length-map (below (7 * points b.sizes)) (mended_byte label b) ∙ from_length 0 (7 * points b.sizes)

  pub table_at : (o : ℕ) → o < 7 * points b.sizes → get_or (mended label b).cuts o 0 ≡ mended_byte label b o
  table_at o h =
      map_at (mended_byte label b) (below (7 * points b.sizes)) o 0 0 (omega (arith, from_length 0 (7 * points b.sizes)))
      ∙ ap (mended_byte label b) (from_at 0 (7 * points b.sizes) o h ∙ omega arith)
