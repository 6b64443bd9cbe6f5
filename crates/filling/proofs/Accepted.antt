-- What filling has checked where it answers 0 or 10, and where it answers 6 or 7; and what it answers for a block that passes: the law of
-- acceptance. Assumes nothing.
use Prim.Native.Nat.{ℕ, ◌*◌, ◌≤◌, ◌<◌}
use native.Mathlib.Omega.{arith}
use mathlib.Core.Path.{◌≡◌, refl, sym, ap, ◌∙◌}
use mathlib.Core.Logic.{◌⊎◌, inl, inr}
use mathlib.Core.Bool.{false}
use mathlib.Core.List.{List}
use lib.ListN.{length}
use borrow.Author.Tests.{le-ltb, eq-eqb}
use Rattle.basics.proofs.Search.{lowest_none, none_lowest}
use Rattle.lattice.specs.Counts.{points}
use Rattle.lattice.proofs.Sized.{sized_fits}
use Rattle.moving.specs.declared.Label.{Label}
use Rattle.moving.specs.Label.{labels, band_most}
use Rattle.moving.specs.Block.{Block, reading_of, Tabled}
use Rattle.moving.proofs.Band.{banded_fits}
use Rattle.filling.specs.Check.{rim_fault, cut_fault, Accepted}
use Rattle.filling.specs.Fill.{Outcome, written, fill}
use Rattle.filling.proofs.Tests.{rim_by, cut_by, faulty, fine_so, so_fine}
use Rattle.filling.proofs.Tests.{cut_tests, Late, fill_is, after_rim, cut_none, byte_named, cut_passed}

-- the labels of a block's points, and its first faults
abbrev pub label_in : ℕ → Block → ℕ → Label
label_in band b = labels band b.samples

abbrev pub fault_in : ℕ → Block → ℕ → ℕ
fault_in band b = cut_fault b.sizes (label_in band b) b.cuts

abbrev pub rim_of : ℕ → Block → ℕ
rim_of band b = rim_by b (label_in band b)

abbrev pub cut_of : ℕ → Block → ℕ
cut_of band b = cut_by b (label_in band b)

module _ (band : ℕ) (b : Block) (state rows : List ℕ) where
  abbrev n : ℕ
  n = points b.sizes

  -- the block is accepted, the state table is long enough, and what filling gives is what it writes
  pub record Passed : Type 0 where
    pub accepted : Accepted band b
    pub state_long : length state ≡ points b.sizes
    pub is : fill band b state rows ≡ written state rows (reading_of band b)

  -- what was tested where the answer comes after the tests of the rim
  tested : (m : ℕ) → (m ≡ 0) ⊎ ((6 ≤ m) × (m ≤ 10)) → (fill band b state rows).answer.number ≡ m
      → Late band b state rows × (n ≤ rim_of band b) × (fill band b state rows ≡ cut_tests band b state rows (label_in band b))
  tested m k e =
      let is = fill_is band b state rows in
      let (w, rim, cuts) = after_rim band b state rows (label_in band b) m k (ap (λ (o : Outcome). o.answer.number) (sym is) ∙ e) in
      (w, rim, is ∙ cuts)

  pub passed_all : (m : ℕ) → (m ≡ 0) ⊎ (m ≡ 10) → (fill band b state rows).answer.number ≡ m → Passed
  passed_all m k e =
      let l = label_in band b in
      let (w, rim, is) = tested m (elim k [ inl z ↦ inl z | inr z ↦ inr (omega arith, omega arith) ]) e in
      let clear = cut_passed band b state rows l m k (sym (ap (λ (o : Outcome). o.answer.number) is) ∙ e) in
      record {
        accepted = record {
          banded = w.banded;
          tabled = w.tabled;
          rim_fine = lowest_none (rim_fault b.sizes l) n rim;
          cuts_fine = λ o h. fine_so b l o (lowest_none (faulty b l) (7 * n) clear o h);
        };
        state_long = w.state_long;
        is = is ∙ cut_none band b state rows l clear;
      }

  -- where filling answers 6 or 7, the band is taken, the tables have the right lengths and some byte is at fault
  pub faulted : (m : ℕ) → (m ≡ 6) ⊎ (m ≡ 7) → (fill band b state rows).answer.number ≡ m
      → (band ≤ band_most) × Tabled b × ((o : ℕ) × (o < 7 * points b.sizes) × (fault_in band b o ≡ m))
  faulted m k e =
      let (w, rim, is) = tested m (inr (elim k [ inl z ↦ (omega arith, omega arith) | inr z ↦ (omega arith, omega arith) ])) e in
      let named = byte_named band b state rows (label_in band b) m k (sym (ap (λ (o : Outcome). o.answer.number) is) ∙ e) in
      (w.banded, w.tabled, (cut_of band b, named.0, named.1))

  -- and the other way round: a block that passes is filled
  pub accepted_fills : Accepted band b → length state ≡ points b.sizes → fill band b state rows ≡ written state rows (reading_of band b)
  unfolding fill
  accepted_fills h l =
      simp (
        sized_fits b.sizes h.tabled.sized,
        banded_fits band h.banded,
        eq-eqb _ _ h.tabled.samples_long,
        eq-eqb _ _ h.tabled.cuts_long,
        eq-eqb _ _ l,
        le-ltb (rim_of band b) n (omega (arith, none_lowest (rim_fault b.sizes (label_in band b)) n h.rim_fine)),
        le-ltb (cut_of band b) (7 * n) (omega (arith, none_lowest (faulty b (label_in band b)) (7 * n) fine)),
      )
    where
      fine : (o : ℕ) → o < 7 * n → faulty b (label_in band b) o ≡ false
      fine o u = so_fine b (label_in band b) o (h.cuts_fine o u)

-- an answer 0 or 10 says that the block is accepted
pub filled_accepted : (band : ℕ) (b : Block) (state rows : List ℕ) → (fill band b state rows).answer.number ≡ 0 → Accepted band b
filled_accepted band b state rows e = (passed_all band b state rows 0 (inl refl) e).accepted

pub short_accepted : (band : ℕ) (b : Block) (state rows : List ℕ) → (fill band b state rows).answer.number ≡ 10 → Accepted band b
short_accepted band b state rows e = (passed_all band b state rows 10 (inr refl) e).accepted
