-- F-9, "Band before rim", compared: mending as it stood directly before F-9 beside today's. "The mending tool takes the band too and
-- follows the same labels." Whatever is handed in; nothing is assumed.
--
-- `mend_raw` is mending as it stood then: no band, no 14, and which edges cross is read off signs. The bytes that it fills in are those of
-- today: F-9 did not change them.
--     mend_0           at band 0 nothing changes
--     mended_or        a byte of a mended table is as it was, or its edge crosses by signs and has an in-band end; then it is 0: not filled
--                      in, or cleared
--     mend_refused     by a band that is taken, what is refused was refused so before
--     mend_as_before   where no crossing edge has an in-band end nothing changes, by any band that is taken
use Prim.Native.Nat.{ℕ, ◌*◌, ◌/◌, ◌%◌, ◌<◌}
use native.Mathlib.Omega.{arith}
use mathlib.Core.Path.{◌≡◌, refl, sym, ap, ◌∙◌}
use mathlib.Core.Logic.{◌⊎◌, inl, inr}
use mathlib.Core.Bool.{Bool, true, false, not}
use lib.Dec.{T, eqb}
use lib.ListN.{length, get_or}
use borrow.Author.Tests.{eq-eqb}
use Rattle.std.specs.Prelude.{if◌then◌else◌}
use Rattle.basics.proofs.Search.{count_same}
use Rattle.basics.proofs.Mapped.{read_all}
use Rattle.lattice.specs.Counts.{sizes_fit, points}
use Rattle.lattice.proofs.Sized.{sized_fits}
use Rattle.moving.specs.Label.{band_fits}
use Rattle.moving.specs.Block.{Block}
use Rattle.moving.proofs.Bytes.{same_or}
use Rattle.filling.specs.Check.{crosses}
use Rattle.mending.specs.Mend.{Outcome, mended_byte, faults, mended, refused, mend}
use Rattle.mending.proofs.Tested.{Taken, taken_mends, table_long, table_at}
use Rattle.mending.proofs.Theorems.{answered}
use Rattle.history.proofs.F9Signs.{signs, labels_raw}
use Rattle.history.proofs.F9Raw.{raw, byte, before, label, now, EdgeInBand, no_gap, now_stray, fault_or}

-- before F-9: "Checks: 1, 2, 3, none added". Which edges cross is read off raw samples, as filling's test of the cut bytes read it
unfoldable pub mend_raw : Block → Outcome
mend_raw b =
    let n = points b.sizes in
    if not (sizes_fit b.sizes) then refused b.cuts 1
    else if not (eqb (length b.samples) n) then refused b.cuts 2
    else if not (eqb (length b.cuts) (7 * n)) then refused b.cuts 3
    else mended (signs b.samples) b

pub mend_0 : (b : Block) → mend 0 b ≡ mend_raw b
unfolding mend mend_raw band_fits
mend_0 b = rw (labels_raw b.samples) refl

module _ (band : ℕ) (b : Block) where
  abbrev bytes : ℕ
  bytes = 7 * points b.sizes

  -- the fault decides what becomes of a byte
  same_byte : (o : ℕ) → now band b o ≡ before b o → mended_byte (label band b) b o ≡ mended_byte (raw b) b o
  unfolding mended_byte
  same_byte o e = rw e refl

  -- an edge with an in-band end has no byte
  no_byte : (o : ℕ) → EdgeInBand band b o → mended_byte (label band b) b o ≡ 0
  unfolding mended_byte
  no_byte o e =
      elim (same_or (byte b o) 0) [
        | inl z ↦ rw (no_gap band b o e z) z
        | inr z ↦ rw (now_stray band b o e z) refl
      ]

  -- where nothing is refused, before F-9 nothing was
  raw_mends : Taken band b → mend_raw b ≡ mended (raw b) b
  unfolding mend_raw
  raw_mends h =
      rw (sized_fits b.sizes h.tabled.sized, eq-eqb _ _ h.tabled.samples_long, eq-eqb _ _ h.tabled.cuts_long) refl

  pub mended_or : (mend band b).answer.number ≡ 0 → (o : ℕ) → o < bytes
      → (EdgeInBand band b o × T (crosses b.sizes (raw b) (o / 7) (o % 7)) × (get_or (mend band b).cuts o 0 ≡ 0))
      ⊎ (get_or (mend band b).cuts o 0 ≡ get_or (mend_raw b).cuts o 0)
  mended_or e o l =
      let h = answered band b e in
      let is = ap (λ (m : Outcome). get_or m.cuts o 0) (taken_mends band b h) ∙ table_at (label band b) b o l in
      let was = ap (λ (m : Outcome). get_or m.cuts o 0) (raw_mends h) ∙ table_at (raw b) b o l in
      elim (fault_or band b o) [
        | inl (w, t) ↦ inl (w, t, is ∙ no_byte o w)
        | inr s ↦ inr (is ∙ same_byte o s ∙ sym was)
      ]

  pub mend_refused : band_fits band ≡ true → ((mend band b).answer.number ≡ 0 → ⊥) → mend band b ≡ mend_raw b
  unfolding mend mend_raw
  mend_refused k h =
      go (sizes_fit b.sizes) (eqb (length b.samples) n) (eqb (length b.cuts) (7 * n)) refl refl refl
    where
      n : ℕ
      n = points b.sizes

      go : (f g i : Bool) → sizes_fit b.sizes ≡ f → eqb (length b.samples) n ≡ g → eqb (length b.cuts) (7 * n) ≡ i
          → mend band b ≡ mend_raw b
      go false g i p q r = rw p refl
      go true false i p q r = rw (p, k, q) refl
      go true true false p q r = rw (p, k, q, r) refl
      go true true true p q r = absurd (h (rw (p, k, q, r) refl))

  -- tables and counts, by labels and by raw samples
  module _ (edges : (o : ℕ) → o < bytes → T (crosses b.sizes (raw b) (o / 7) (o % 7)) → EdgeInBand band b o → ⊥) where
    same_fault : (o : ℕ) → o < bytes → now band b o ≡ before b o
    same_fault o l = elim (fault_or band b o) [ inl (w, t) ↦ absurd (edges o l t w) | inr s ↦ s ]

    same_count : (k : ℕ) → faults (label band b) b k ≡ faults (raw b) b k
    unfolding faults
    same_count k = count_same _ _ bytes (λ o l. ap (λ (f : ℕ). eqb f k) (same_fault o l))

    same_table : (mended (label band b) b).cuts ≡ (mended (raw b) b).cuts
    same_table =
        let long = table_long (raw b) b in
        read_all (mended_byte (label band b) b) (mended (raw b) b).cuts bytes 0 long
        (λ o l. same_byte o (same_fault o (omega (arith, long))) ∙ sym (table_at (raw b) b o (omega (arith, long))))

    same_mended : mended (label band b) b ≡ mended (raw b) b
    same_mended = λ i. record { answer = record { number = 0; filled = same_count 6 i; cleared = same_count 7 i }; cuts = same_table i }

    pub mend_as_before : band_fits band ≡ true → mend band b ≡ mend_raw b
    unfolding mend mend_raw
    mend_as_before k = rw (k, same_mended) refl
