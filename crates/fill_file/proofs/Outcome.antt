-- The two ways of a summary: the file is refused, or its block is filled. Assumes nothing.
use Prim.Native.Nat.{ℕ}
use mathlib.Core.Path.{◌≡◌, refl}
use mathlib.Core.List.{List}
use lib.IntN.{ℤ}
use Prim.Native.Nat.{◌<◌}
use native.Mathlib.Omega.{arith}
use Rattle.std.specs.Prelude.{Ok, Err}
use Rattle.refusals.specs.declared.Refusal.{Refusal}
use Rattle.refusals.specs.inner.Numbers.{refusal_number}
use Rattle.blockfile.specs.declared.Loaded.{Loaded}
use Rattle.blockfile.proofs.Checked.{no_zero}
use Rattle.fill_file.specs.declared.answers.Refused.{Refused}
use borrow.Author.Tests.{eq-eqb, ne_eqb}
use Rattle.blockfile.specs.Format.{Read, refusal as refusal_of, read_sizes, read_whole}
use Rattle.blockfile.specs.inner.Answer.{answer_of as file_answer}
use Rattle.fill_file.specs.program.Summary.{Summary, bench_limit, refusal, fill_read, summary}
use Rattle.fill_file.specs.inner.Answer.{answer_of}
use Rattle.fill_file.proofs.Counted.{Is}

-- no refusal of the reader has the number 0
pub refuses : (e : Refusal) → 0 < refusal_number e
unfolding file_answer refusal_of
refuses e = let h = no_zero e in omega arith

module _ (bytes : List ℕ) (samples : List ℤ) (cuts state rows : List ℕ) {r : Read} (p : r ≡ (read_whole bytes bench_limit samples cuts).answer) where
  pub file_refused : {a : Summary} → (r.number ≡ 0 → ⊥) → a ≡ refusal r.number 0 → Is (summary bytes samples cuts state rows) a state rows
  unfolding summary
  file_refused n e = rw (← p, ne_eqb r.number 0 n) (e, (refl, refl))

  pub file_filled : {ss : List ℤ} {cs after rowsAfter : List ℕ} {a : Summary} → r.number ≡ 0
      → ss ≡ (read_whole bytes bench_limit samples cuts).samples → cs ≡ (read_whole bytes bench_limit samples cuts).cuts
      → Is (fill_read (read_sizes r) ss cs state rows) a after rowsAfter → Is (summary bytes samples cuts state rows) a after rowsAfter
  unfolding summary
  file_filled e f g w = rw (← p, eq-eqb r.number 0 e, ← f, ← g) w

-- the same of what the reader gives
module _ (bytes : List ℕ) (samples : List ℤ) (cuts state rows : List ℕ) where
  pub refused_as : (e : Refusal) (r : Refused) → file_answer (Err e) ≡ (read_whole bytes bench_limit samples cuts).answer
      → r.number ≡ refusal_number e → r.place ≡ 0 → Is (summary bytes samples cuts state rows) (answer_of (Err r)) state rows
  unfolding file_answer refusal_of answer_of
  refused_as e r p n z = file_refused bytes samples cuts state rows p (no_zero e) (rw (n, z) refl)

  pub filled_as : (o : Loaded) {ss : List ℤ} {cs after rowsAfter : List ℕ} {a : Summary}
      → file_answer (Ok o) ≡ (read_whole bytes bench_limit samples cuts).answer
      → ss ≡ (read_whole bytes bench_limit samples cuts).samples → cs ≡ (read_whole bytes bench_limit samples cuts).cuts
      → Is (fill_read o.lattice.sizes ss cs state rows) a after rowsAfter → Is (summary bytes samples cuts state rows) a after rowsAfter
  unfolding file_answer
  filled_as o p f g w = file_filled bytes samples cuts state rows p refl f g w
