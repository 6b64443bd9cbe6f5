-- What document 02 asks of mending besides the answer itself (F-4), for every block: sizes, samples and a cut table of any content and
-- length, and every band. Nothing is assumed.
--
-- near       "within half a step of the exact quotient, or under one step where it was held": of each byte filled in
-- unrefused  "filling no longer refuses it with 6 or 7", with the same band: whatever the state table and the row table
-- counted    each count "equals the number of offsets where the old table breaks that rule": by filling's own test
-- again      "A second run over the mended table changes nothing and answers two zeros"
use Prim.Native.Nat.{ℕ, ◌*◌, ◌/◌, ◌%◌, ◌<◌}
use native.Mathlib.Omega.{arith}
use mathlib.Core.Path.{◌≡◌, refl, sym, ap, subst, ◌∙◌}
use mathlib.Core.Logic.{◌⊎◌, inl, inr}
use mathlib.Core.List.{List}
use lib.Dec.{eqb}
use lib.ListN.{length, get_or}
use borrow.Author.Tests.{ne_eqb}
use Rattle.std.proofs.Common.{Some}
use Rattle.basics.specs.Lists.{count}
use Rattle.basics.proofs.Search.{count_none}
use Rattle.basics.proofs.Mapped.{read_all}
use Rattle.lattice.specs.Counts.{points}
use Rattle.lattice.specs.Direction.{as_start}
use Rattle.lattice.specs.Edge.{neighbour}
use Rattle.moving.specs.declared.Label.{Label}
use Rattle.moving.specs.Label.{labels}
use Rattle.moving.specs.Block.{Block}
use Rattle.moving.proofs.Band.{banded_fits}
use Rattle.filling.specs.Check.{cut_fault}
use Rattle.filling.specs.Fill.{fill}
use Rattle.filling.proofs.Accepted.{faulted}
use Rattle.mending.specs.Mend.{Outcome, size_at, byte_to, fault_at, mended_byte, faults, mended, refused, mend}
use Rattle.mending.specs.inner.Close.{Close}
use Rattle.mending.proofs.Step.{close}
use Rattle.mending.proofs.Sizes.{opposed_some}
use Rattle.mending.proofs.Bytes.{missing_so, missing_of, crosses_far, byte_fine, fine_stays}
use Rattle.mending.proofs.Tested.{recut, Refuses, Taken, tested, taken_mends, table_long, table_at}

module _ (band : ℕ) (b : Block) where
  -- the block with its mended table
  abbrev pub after : Block
  after = recut b (mend band b).cuts

  abbrev label : ℕ → Label
  label = labels band b.samples

  abbrev bytes : ℕ
  bytes = 7 * points b.sizes

  -- a table that is mended is as long as it was, and no byte of it is at fault
  module _ (h : Taken band b) where
    cuts_are : (mend band b).cuts ≡ (mended label b).cuts
    cuts_are = ap (λ (m : Outcome). m.cuts) (taken_mends band b h)

    cut_is : (o : ℕ) → o < bytes → get_or (mend band b).cuts o 0 ≡ mended_byte label b o
    cut_is o l = ap (λ (t : List ℕ). get_or t o 0) cuts_are ∙ table_at label b o l

    long : length (mend band b).cuts ≡ bytes
    long = ap length cuts_are ∙ table_long label b

    fine : (o : ℕ) → o < bytes → fault_at label after o ≡ 0
    fine o l = byte_fine label b o (mend band b).cuts (cut_is o l)

    after_taken : Taken band after
    after_taken =
        record {
          fits = h.fits;
          tabled = record { sized = h.tabled.sized; samples_long = h.tabled.samples_long; cuts_long = long };
        }

  -- a block that is refused stays as it is, and is refused again
  module _ {n : ℕ} (r : Refuses band b n) where
    refused_is : mend band b ≡ refused b.cuts n
    refused_is = r.is b.cuts refl

    refused_again : mend band after ≡ refused (mend band b).cuts n
    refused_again = r.is (mend band b).cuts (ap (λ (m : Outcome). length m.cuts) refused_is)

  -- where the answer is 0, or the mended block passes, the band is taken and the tables have the right lengths
  pub answered : (mend band b).answer.number ≡ 0 → Taken band b
  answered e = go (tested band b)
    where
      go : ((n : ℕ) × Refuses band b n) ⊎ Taken band b → Taken band b
      go (inr h) = h
      go (inl (n, r)) = absurd (omega (arith, r.some, sym e ∙ ap (λ (m : Outcome). m.answer.number) (refused_is r)))

  taken_before : Taken band after → Taken band b
  taken_before t = go (tested band b)
    where
      go : ((n : ℕ) × Refuses band b n) ⊎ Taken band b → Taken band b
      go (inr h) = h
      go (inl (n, r)) =
          let e = sym (taken_mends band after t) ∙ refused_again r in
          absurd (omega (arith, r.some, ap (λ (m : Outcome). m.answer.number) e))

  pub near : (mend band b).answer.number ≡ 0 → (o : ℕ) → o < bytes → fault_at label b o ≡ 6
      → (q : ℕ) × (neighbour b.sizes (o / 7) (as_start (o % 7)) ≡ Some q)
      × Close (size_at b.samples (o / 7)) (size_at b.samples q) (get_or (mend band b).cuts o 0)
  unfolding byte_to labels
  near e o l f =
      let (c, z) = missing_of label b o f in
      let (q, to, w) = crosses_far label b o c in
      let (i, j) = opposed_some band _ _ w in
      let byte = cut_is (answered e) o l ∙ (missing_so label b o c z).1 ∙ ap (byte_to b.samples (o / 7)) to in
      (q, to, subst (Close (size_at b.samples (o / 7)) (size_at b.samples q)) (sym byte) (close _ _ i j))

  pub unrefused : (state rows : List ℕ) (m : ℕ) → (m ≡ 6) ⊎ (m ≡ 7) → (fill band after state rows).answer.number ≡ m → ⊥
  unrefused state rows m k e =
      let (h, t, w) = faulted band after state rows m k e in
      let (o, l, f) = w in
      let taken : Taken band after = record { fits = banded_fits band h; tabled = t } in
      let z = sym (fine (taken_before taken) o l) ∙ f in
      elim k [ inl i ↦ omega arith | inr i ↦ omega arith ]

  pub counted : (mend band b).answer.number ≡ 0
      → ((mend band b).answer.filled ≡ count (λ o. eqb (cut_fault b.sizes label b.cuts o) 6) bytes)
      × ((mend band b).answer.cleared ≡ count (λ o. eqb (cut_fault b.sizes label b.cuts o) 7) bytes)
  unfolding faults
  counted e = rw (taken_mends band b (answered e)) (refl, refl)

  pub again : mend band after
      ≡ record { answer = record { number = (mend band b).answer.number; filled = 0; cleared = 0 }; cuts = (mend band b).cuts }
  unfolding faults
  again = go (tested band b)
    where
      Again : Outcome → Outcome → Type 0
      Again m n = n ≡ record { answer = record { number = m.answer.number; filled = 0; cleared = 0 }; cuts = m.cuts }

      none : (h : Taken band b) (n : ℕ) → (n ≡ 0 → ⊥) → faults label after n ≡ 0
      none h n k = count_none _ bytes (λ o l. ne_eqb _ _ (λ e. k (sym e ∙ fine h o l)))

      stays : (h : Taken band b) → (mended label after).cuts ≡ (mend band b).cuts
      stays h =
          let stays_at : (o : ℕ) → o < length (mend band b).cuts → mended_byte label after o ≡ get_or (mend band b).cuts o 0
          = λ o l. fine_stays label after o (fine h o (omega (arith, long h))) in
          read_all (mended_byte label after) (mend band b).cuts bytes 0 (long h) stays_at

      go : ((n : ℕ) × Refuses band b n) ⊎ Taken band b → Again (mend band b) (mend band after)
      go (inl (n, r)) = rw (refused_again r, refused_is r) refl
      go (inr h) =
          let no_gap = none h 6 (λ e. omega arith) in
          let no_stray = none h 7 (λ e. omega arith) in
          rw (taken_mends band after (after_taken h), no_gap, no_stray, stays h, taken_mends band b h) refl
