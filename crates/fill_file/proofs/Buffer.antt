-- The program's tables and its input buffer are large enough: within its limit there are at most 1,200 lattice tetrahedra, so that
-- 10 never arises; and what is printed for the first 9,046 bytes is what is printed for all of them. Assumes nothing.
use Prim.Native.Nat.{ℕ, ◌+◌, ◌≤◌}
use native.Mathlib.Omega.{arith}
use mathlib.Core.Path.{◌≡◌, refl}
use mathlib.Core.Logic.{inl, inr}
use mathlib.Core.Bool.{Bool, true, false}
use mathlib.Core.List.{List}
use lib.IntN.{ℤ}
use lib.ListN.{length, take}
use lib.Dec.{eqb}
use borrow.Author.Tests.{eq-eqb, ne_eqb}
use Rattle.std.specs.Prelude.{if◌then◌else◌}
use Rattle.basics.proofs.Test.{lt_or}
use Rattle.lattice.specs.declared.Sizes.{Sizes}
use Rattle.filling.specs.declared.Filled.{Filled}
use Rattle.bounds.proofs.Amount.{long_enough_always, tetrahedra_within}
use Rattle.blockfile.specs.Format.{Read, read_sizes, read_whole}
use Rattle.blockfile.specs.inner.Needs.{bench_longest}
use Rattle.blockfile.proofs.Checked.{Answers, fine, by_size, by_file, by_limit, whole_answers, whole_readable}
use Rattle.blockfile.proofs.Longest.{limited, bench_most, first_bytes}
use Rattle.fill_file.specs.program.Summary.{Summary, bench_limit, bench_rows, refusal, counted, fill_read, summary}
use Rattle.fill_file.specs.program.Printed.{output}

-- one byte more than the longest file
abbrev pub buffer_length : ℕ
buffer_length = bench_longest + 1

pub buffer_enough : (bytes : List ℕ) (samples : List ℤ) (cuts state rows : List ℕ)
    → summary (take buffer_length bytes) samples cuts state rows ≡ summary bytes samples cuts state rows
unfolding summary
buffer_enough bytes samples cuts state rows =
    rw (first_bytes bench_limit samples cuts buffer_length (omega arith) (λ s z w. omega (arith, bench_most s w)) bytes)

-- so is what the program prints
pub output_enough : (bytes : List ℕ) → output (take buffer_length bytes) ≡ output bytes
unfolding output
output_enough bytes = rw (buffer_enough bytes _ _ _ _) refl

not_ten : {k : ℕ} → Answers k → k ≡ 10 → ⊥
not_ten fine e = omega arith
not_ten by_size e = omega arith
not_ten by_file e = omega arith
not_ten by_limit e = omega arith

counted_ten : (s : Sizes) (f : Filled) → (f.number ≡ 10 → ⊥) → (counted s f).number ≡ 10 → ⊥
unfolding counted refusal
counted_ten s f h e = go (eqb f.number 0) _ refl e
  where
    go : (t : Bool) (a : Summary) → a.number ≡ 0 → (if t then a else refusal f.number f.place).number ≡ 10 → ⊥
    go true a z k = omega arith
    go false a z k = h k

module _ (bytes : List ℕ) (samples : List ℤ) (cuts state rows : List ℕ) (long : bench_rows ≤ length rows) where
  -- what was read
  abbrev reading : Read
  reading = (read_whole bytes bench_limit samples cuts).answer

  filled_ten : reading.number ≡ 0 → (summary bytes samples cuts state rows).answer.number ≡ 10 → ⊥
  unfolding summary fill_read
  filled_ten z e =
      let s = read_sizes reading in
      let w = limited bench_limit s (whole_readable bytes bench_limit samples cuts {r = reading} refl z).within in
      let few = tetrahedra_within s w.x w.y w.z in
      counted_ten s _ (long_enough_always _ _ _ rows (omega (arith, few))) (rw (eq-eqb reading.number 0 z) at e)

  refused_ten : (reading.number ≡ 0 → ⊥) → (summary bytes samples cuts state rows).answer.number ≡ 10 → ⊥
  unfolding summary refusal
  refused_ten n e = not_ten (whole_answers bytes bench_limit samples cuts) (rw (ne_eqb reading.number 0 n) at e)

  pub never_ten : (summary bytes samples cuts state rows).answer.number ≡ 10 → ⊥
  never_ten = elim (lt_or 0 reading.number) [ inl h ↦ refused_ten (λ z. omega arith) | inr h ↦ filled_ten (omega arith) ]
