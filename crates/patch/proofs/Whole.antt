-- The whole table, mended part by part, is the one of the definition; and the refusals. Assumes nothing.
--     refuses_1, refuses_14, .., refuses_3     each refusal
--     whole                                    a table that passes
use Prim.Native.Nat.{ℕ, ◌*◌}
use native.Mathlib.Omega.{arith}
use mathlib.Core.Path.{◌≡◌, refl, sym, ap, ◌∙◌}
use mathlib.Core.Bool.{true, false}
use mathlib.Core.List.{List}
use lib.IntN.{ℤ}
use lib.ListN.{length}
use borrow.Author.Tests.{eq-eqb, ne_eqb}
use Rattle.basics.specs.Lists.{count}
use Rattle.basics.proofs.Mapped.{read_all}
use Rattle.lattice.specs.declared.Sizes.{Sizes}
use Rattle.lattice.specs.Counts.{Sized, sizes_fit, points}
use Rattle.lattice.proofs.Sized.{sized_fits}
use Rattle.moving.specs.declared.Label.{Label}
use Rattle.moving.specs.Label.{labels, band_fits}
use Rattle.moving.specs.Block.{Block, block_of, Tabled}
use Rattle.filling.specs.Check.{cut_fault}
use Rattle.mending.specs.declared.Mended.{Mended}
use Rattle.mending.specs.Mend.{Outcome, mended_byte, faults, refused, mend}
use Rattle.mending.proofs.Bytes.{by_case, missing_so, cut_so, blank_so, stray_so}
use Rattle.mending.proofs.Tested.{taken_mends}
use Rattle.checks.specs.inner.Faults.{number_at}
use Rattle.patch.specs.declared.Counts.{Counts}
use Rattle.patch.specs.inner.Mends.{Mends, due_byte, fixed_by, table_due}

module _ (s : Sizes) (band : ℕ) (samples : List ℤ) (old : List ℕ) where
  abbrev b : Block
  b = block_of s samples old

  abbrev label : ℕ → Label
  label = labels band samples

  -- an answer and a table are the call's
  abbrev pub Gives : Mended → List ℕ → Type 0
  Gives r new = (r ≡ (mend band b).answer) × (new ≡ (mend band b).cuts)

  gives : {r : Mended} {new : List ℕ} → mend band b ≡ record { answer = r; cuts = new } → Gives r new
  gives e = (sym (ap (λ (o : Outcome). o.answer) e), sym (ap (λ (o : Outcome). o.cuts) e))

  refused_so : {r : Mended} {n : ℕ} → r ≡ (refused old n).answer → mend band b ≡ refused old n → Gives r old
  refused_so f e = (f ∙ (gives e).0, (gives e).1)

  module _ {r : Mended} where
    pub refuses_1 : r ≡ (refused old 1).answer → sizes_fit s ≡ false → Gives r old
    unfolding mend
    refuses_1 f e = refused_so f (rw e refl)

    module _ (h : Sized s) where
      pub refuses_14 : r ≡ (refused old 14).answer → band_fits band ≡ false → Gives r old
      unfolding mend
      refuses_14 f e = refused_so f (rw (sized_fits s h, e) refl)

      module _ (k : band_fits band ≡ true) where
        pub refuses_2 : r ≡ (refused old 2).answer → (length samples ≡ points s → ⊥) → Gives r old
        unfolding mend
        refuses_2 f n = refused_so f (rw (sized_fits s h, k, ne_eqb _ _ n) refl)

        pub refuses_3 : r ≡ (refused old 3).answer → length samples ≡ points s → (length old ≡ 7 * points s → ⊥) → Gives r old
        unfolding mend
        refuses_3 f e n = refused_so f (rw (sized_fits s h, k, eq-eqb _ _ e, ne_eqb _ _ n) refl)

  fixed_mended : (o : ℕ) → mended_byte label b o ≡ fixed_by (table_due s label samples) old o
  unfolding due_byte
  fixed_mended o =
      by_case label b o
      (λ c z. (missing_so label b o c z).1 ∙ sym (rw (c, eq-eqb _ _ z) refl))
      (λ c n. (cut_so label b o c n).1 ∙ sym (rw (c, ne_eqb _ _ n) refl))
      (λ c z. (blank_so label b o c z).1 ∙ z ∙ sym (rw c refl))
      (λ c n. (stray_so label b o c n).1 ∙ sym (rw c refl))

  pub whole : {new : List ℕ} {c : Counts} → band_fits band ≡ true → Tabled b → Mends (table_due s label samples) 0 (7 * points s) old new c
      → Gives (record { number = 0; filled = c.filled; cleared = c.cleared }) new
  unfolding faults cut_fault number_at count
  whole {new} {c} k t w =
      let filled : faults label b 6 ≡ c.filled = omega (arith, w.filled) in
      let cleared : faults label b 7 ≡ c.cleared = omega (arith, w.cleared) in
      let long = w.long ∙ t.cuts_long in
      let same = read_all (mended_byte label b) new (7 * points s) 0 long
      (λ o l. fixed_mended o ∙ sym (w.within o (omega arith) (omega (arith, long)))) in
      gives
      (taken_mends band b (record { fits = k; tabled = t })
      ∙ (λ i. record { answer = record { number = 0; filled = filled i; cleared = cleared i }; cuts = same i }))
