-- What the checks of rim and cut bytes say of a block. Assumes nothing.
--     rim_refused, cut_refused     a rim point at fault, or a byte
--     accept                      none: the block is accepted
--     at_rim, at_cut, passed      the same for a cut table that the code holds
use Prim.Native.Nat.{ℕ, ◌*◌, ◌≤◌, ◌<◌}
use native.Mathlib.Omega.{arith}
use mathlib.Core.Path.{◌≡◌, refl, sym, ap, subst, ◌∙◌}
use mathlib.Core.Bool.{Bool, true, false, not}
use mathlib.Core.List.{List}
use lib.ListN.{length}
use lib.Dec.{eqb, ltb}
use borrow.Author.Tests.{ltb-true, eqb-true, not-false}
use Rattle.std.proofs.Common.{Ok, Err}
use Rattle.std.specs.Prelude.{if◌then◌else◌}
use Rattle.basics.proofs.Search.{lowest_none}
use Rattle.lattice.specs.Counts.{points}
use Rattle.lattice.proofs.Sized.{sized_fits}
use Rattle.moving.specs.Label.{band_most}
use Rattle.moving.specs.Block.{Block, Tabled}
use Rattle.moving.proofs.Band.{banded_fits}
use Rattle.filling.specs.Check.{rim_fault, Accepted}
use Rattle.filling.specs.Fill.{refused, fill}
use Rattle.filling.proofs.Accepted.{label_in, fault_in, rim_of, cut_of}
use Rattle.refusals.specs.declared.Refusal.{Refusal}
use Rattle.refusals.specs.declared.Refusal.TheVariants.{Rim}
use Rattle.refusals.specs.inner.Numbers.{refusal_number, refusal_place}
use Rattle.checks.specs.declared.CutTable.{CutTable}
use Rattle.checks.specs.declared.Fault.{Fault}
use Rattle.checks.specs.declared.Fault.TheVariants.{Gap, Stray}
use Rattle.checks.specs.inner.Faults.{fault_number, fault_offset, CutAnswer}
use Rattle.stuffing.specs.inner.Checks.{block_of_table, Refuses, Taken}
use Rattle.stuffing.proofs.Refusals.{by_rim, by_byte_law}

module _ (band : ℕ) (b : Block) (small : band ≤ band_most) (t : Tabled b) (state rows : List ℕ) (long : length state ≡ points b.sizes) where
  -- a rim point at fault
  pub rim_refused : {p : ℕ} → p ≡ rim_of band b → p < points b.sizes → fill band b state rows ≡ refused state rows 5 p
  rim_refused {p} e h =
      by_rim band b state rows (sized_fits b.sizes t.sized) (banded_fits band small) t.samples_long t.cuts_long long (omega arith)
      ∙ ap (refused state rows 5) (sym e)

  -- a byte at fault
  pub cut_refused : points b.sizes ≤ rim_of band b → (f : Fault) → CutAnswer b.sizes (label_in band b) b.cuts (Err f)
      → fill band b state rows ≡ refused state rows (fault_number f) (fault_offset f)
  cut_refused r f a = go (ltb (cut_of band b) (7 * points b.sizes)) refl a.number
    where
      some : (f : Fault) → fault_number f ≡ 0 → ⊥
      some (Gap o) e = absurd (omega (arith, e))
      some (Stray o) e = absurd (omega (arith, e))

      go : (z : Bool) → ltb (cut_of band b) (7 * points b.sizes) ≡ z → fault_number f ≡ (if z then fault_in band b (cut_of band b) else 0)
          → fill band b state rows ≡ refused state rows (fault_number f) (fault_offset f)
      go false z w = absurd (some f w)
      go true z w =
          by_byte_law band b state rows (sized_fits b.sizes t.sized) (banded_fits band small) t.samples_long t.cuts_long long
          r (ltb-true _ _ z)
          ∙ (λ i. refused state rows (sym w i) (sym a.place i))

-- no fault on the rim and none in the cut table: the block is accepted
pub accept : (band : ℕ) (b : Block) → band ≤ band_most → Tabled b → points b.sizes ≤ rim_of band b
    → CutAnswer b.sizes (label_in band b) b.cuts (Ok tt) → Accepted band b
accept band b l t r a =
    let clear = lowest_none (λ o. not (eqb (fault_in band b o) 0)) (7 * points b.sizes) (omega (arith, a.place)) in
    record {
      banded = l;
      tabled = t;
      rim_fine = lowest_none (rim_fault b.sizes (label_in band b)) (points b.sizes) r;
      cuts_fine = λ o u. eqb-true _ _ (not-false _ (clear o u));
    }

module _ {band : ℕ} {b : Block} {n : ℕ} {t : CutTable} (h : Taken band b n t) where
  abbrev its : Block
  its = block_of_table t

  tabled : Tabled its
  tabled = record { sized = t.scan.lattice.sized; samples_long = t.scan.sampled; cuts_long = t.tabled }

  small : t.scan.band ≤ band_most
  small = omega (arith, h.band_is, h.banded)

  refuses : {e : Refusal} → ((state rows : List ℕ) → length state ≡ points its.sizes
      → fill t.scan.band its state rows ≡ refused state rows (refusal_number e) (refusal_place e)) → Refuses band b n e
  refuses {e} f =
      subst (λ (k : ℕ). Refuses k b n e) h.band_is
      (subst (λ (c : Block). Refuses t.scan.band c n e) h.block_is
      (record { is = λ state rows l. f state rows (sym l ∙ h.state_long ∙ ap (λ (c : Block). points c.sizes) (sym h.block_is)) }))

  pub at_rim : {p : ℕ} → p ≡ rim_of t.scan.band its → p < points its.sizes → Refuses band b n (Rim p)
  unfolding refusal_number refusal_place
  at_rim e l = refuses (λ state rows long. rim_refused t.scan.band its small tabled state rows long e l)

  pub at_cut : points its.sizes ≤ rim_of t.scan.band its → (f : Fault) → CutAnswer its.sizes (label_in t.scan.band its) its.cuts (Err f)
      → (e : Refusal) → refusal_number e ≡ fault_number f → refusal_place e ≡ fault_offset f → Refuses band b n e
  at_cut r f a e same place =
      refuses (λ state rows long.
      cut_refused t.scan.band its small tabled state rows long r f a ∙ (λ i. refused state rows (sym same i) (sym place i)))

  pub passed : points its.sizes ≤ rim_of t.scan.band its → CutAnswer its.sizes (label_in t.scan.band its) its.cuts (Ok tt) → Accepted band b
  passed r a =
      subst (λ (k : ℕ). Accepted k b) h.band_is
      (subst (λ (c : Block). Accepted t.scan.band c) h.block_is (accept t.scan.band its small tabled r a))
