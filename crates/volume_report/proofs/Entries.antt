-- A file's entry: it is refused, its block is refused, or its volumes are measured. Assumes nothing.
use Prim.Native.Nat.{ℕ, ◌*◌, ◌≤◌}
use native.Mathlib.Omega.{arith}
use mathlib.Core.Path.{◌≡◌, refl}
use lib.ListN.{length, take}
use Rattle.std.specs.Prelude.{Ok, Err}
use Rattle.lattice.specs.Counts.{points}
use Rattle.moving.specs.Block.{Bytes}
use Rattle.refusals.specs.declared.Refusal.{Refusal}
use Rattle.refusals.specs.inner.Numbers.{refusal_number}
use Rattle.bounds.specs.inner.Most.{rows_most}
use Rattle.sums.specs.inner.Measured.{Measured}
use Rattle.blockfile.specs.declared.Loaded.{Loaded}
use Rattle.blockfile.proofs.Checked.{no_zero}
use Rattle.fill_file.specs.declared.answers.Counts.{Counts}
use Rattle.fill_file.specs.declared.answers.Refused.{Refused}
use Rattle.volume_report.specs.declared.Volumes.{Volumes}
use mathlib.Core.List.{List}
use lib.IntN.{ℤ}
use borrow.Author.Tests.{eq-eqb, ne_eqb}
use Rattle.blockfile.specs.Format.{Read, refusal as file_refusal, read_sizes}
use Rattle.blockfile.specs.inner.Answer.{answer_of as file_answer}
use Rattle.fill_file.specs.program.Summary.{Summary, refusal as summary_refusal, fill_read}
use Rattle.fill_file.specs.inner.Answer.{answer_of as summary_of}
use Rattle.volume_report.specs.program.Report.{Entry, opened, filled, measured, refusal, entry_from, entry_of}
use Rattle.volume_report.specs.inner.Answer.{entry_with}
use Rattle.volume_report.specs.inner.Small.{Small}
use Rattle.volume_report.proofs.Opening.{Opens, unmoved, empty, opened_samples, opened_cuts, filled_state, filled_few, filled_ready}

pub refusal_small : (n at end : ℕ) {e : Entry} → e ≡ refusal n at end → Small e
unfolding refusal
refusal_small n at end e = rw e (record { rows = omega arith; sums = omega arith })

module _ {bytes : List ℕ} {r : Read} {samples : List ℤ} {cuts : List ℕ} (w : Opens bytes r samples cuts) where
  pub file_refused : {e : Entry} → (r.number ≡ 0 → ⊥) → e ≡ refusal r.number 0 0 → e ≡ entry_of bytes
  unfolding entry_from opened
  file_refused n g = rw (← w.answer, ne_eqb r.number 0 n) g

  module _ (z : r.number ≡ 0) {f : Summary} {state rows : List ℕ}
      (answer : f ≡ (fill_read (read_sizes r) samples cuts unmoved empty).answer)
      (state_is : state ≡ (fill_read (read_sizes r) samples cuts unmoved empty).state)
      (rows_are : rows ≡ (fill_read (read_sizes r) samples cuts unmoved empty).rows) where
    pub block_refused : {e : Entry} → (f.number ≡ 0 → ⊥) → e ≡ refusal f.number f.place r.end → e ≡ entry_of bytes
    unfolding entry_from opened filled
    block_refused n g =
        rw (← w.answer, eq-eqb r.number 0 z, ← w.samples_are, ← w.cuts_are, ← answer, ne_eqb f.number 0 n) g

    pub block_measured : {e : Entry} → f.number ≡ 0 → e ≡ measured (read_sizes r) r.end f cuts state rows → e ≡ entry_of bytes
    unfolding entry_from opened filled
    block_measured n g =
        rw (
          ← w.answer,
          eq-eqb r.number 0 z,
          ← w.samples_are,
          ← w.cuts_are,
          ← answer,
          eq-eqb f.number 0 n,
          ← state_is,
          ← rows_are,
        )
        g

-- the same of what the calls give
pub refused_small : (r : Refused) (end : ℕ) → Small (entry_with (Err r) end)
unfolding entry_with
refused_small r end = refusal_small _ _ _ refl

module _ {bytes : List ℕ} {samples : List ℤ} {cuts : List ℕ} where
  pub unread : (e : Refusal) (r : Refused) → Opens bytes (file_answer (Err e)) samples cuts → r.number ≡ refusal_number e → r.place ≡ 0
      → entry_with (Err r) 0 ≡ entry_of bytes
  unfolding file_answer file_refusal entry_with
  unread e r w n z = file_refused w (no_zero e) (rw (n, z) refl)

  module _ (o : Loaded) (w : Opens bytes (file_answer (Ok o)) samples cuts) where
    pub loaded_fits : (points o.lattice.sizes ≤ length samples) × (7 * points o.lattice.sizes ≤ length cuts)
    unfolding file_answer
    loaded_fits = (opened_samples w refl, opened_cuts w refl)

    module _ {state rows : List ℕ} (state_is : state ≡ (fill_read o.lattice.sizes samples cuts unmoved empty).state)
        (rows_are : rows ≡ (fill_read o.lattice.sizes samples cuts unmoved empty).rows) where
      pub refused_entry : (r : Refused) → summary_of (Err r) ≡ (fill_read o.lattice.sizes samples cuts unmoved empty).answer
          → entry_with (Err r) o.end ≡ entry_of bytes
      unfolding file_answer summary_of summary_refusal entry_with
      refused_entry r answer = let h = r.refuses in block_refused w refl answer state_is rows_are (λ z. omega arith) refl

      module _ (f : Counts) (answer : summary_of (Ok f) ≡ (fill_read o.lattice.sizes samples cuts unmoved empty).answer) where
        pub counts_state : points o.lattice.sizes ≤ length state
        unfolding file_answer summary_of
        counts_state = filled_state w refl answer state_is rows_are refl

        pub counts_few : f.emitted ≤ rows_most
        unfolding file_answer summary_of
        counts_few = filled_few w refl answer state_is rows_are refl

        pub counts_ready : Bytes cuts
            → Measured o.lattice.sizes (take (7 * points o.lattice.sizes) cuts) (take (points o.lattice.sizes) state) rows f.emitted
        unfolding file_answer summary_of
        counts_ready bytes = filled_ready w refl answer state_is rows_are refl bytes

        pub counts_entry : (v : Volumes) → entry_with (Ok v) o.end ≡ measured o.lattice.sizes o.end (summary_of (Ok f)) cuts state rows
            → entry_with (Ok v) o.end ≡ entry_of bytes
        unfolding file_answer summary_of
        counts_entry v g = block_measured w refl answer state_is rows_are refl g
