-- Where a file ends, and that the report goes on only after one that was read. Assumes nothing.
--     entry_end     an entry ends where its file does
--     read_whole    the reader took the file, unless the report ends
--     entry_some    and then it has a byte at least
use Prim.Native.Nat.{ℕ, ◌≤◌}
use native.Mathlib.Omega.{arith}
use mathlib.Core.Path.{◌≡◌, refl, sym, ap, ◌∙◌}
use mathlib.Core.Logic.{inl, inr}
use mathlib.Core.Bool.{Bool, true, false, not}
use mathlib.Core.List.{List}
use lib.Dec.{eqb}
use borrow.Author.Tests.{eq-eqb, ne_eqb}
use Rattle.std.specs.Prelude.{if◌then◌else◌}
use Rattle.basics.proofs.Test.{lt_or, false_F}
use Rattle.blockfile.specs.Format as file
use Rattle.blockfile.proofs.Checked.{Answers, fine, by_size, by_file, by_limit, read_answers}
use Rattle.blockfile.proofs.Stages.{three}
use Rattle.blockfile.proofs.Settled.{read_end}
use Rattle.fill_file.specs.program.Summary.{bench_limit}
use Rattle.volume_report.specs.program.Report.{Entry, opened, filled, measured, refusal, entry_from, entry_of, is_last}

-- the reader's refusals end the report
refusal_last : (n : ℕ) → Answers n → is_last n ≡ false → n ≡ 0
unfolding is_last
refusal_last n fine e = refl
refusal_last n by_size e = absurd (false_F true e tt)
refusal_last n by_file e = absurd (false_F true e tt)
refusal_last n by_limit e = absurd (false_F true e tt)

-- where an entry ends
entry_refused : (o : file.Outcome) → (o.answer.number ≡ 0 → ⊥) → (entry_from o).number ≡ o.answer.number
unfolding entry_from refusal
entry_refused o n = rw (ne_eqb o.answer.number 0 n) refl

pub entry_end : (o : file.Outcome) → o.answer.number ≡ 0 → (entry_from o).end ≡ o.answer.end
unfolding entry_from refusal measured
entry_end o z = rw (eq-eqb o.answer.number 0 z) (go (not (eqb (filled o).answer.number 0)) _ _ refl refl)
  where
    go : (t : Bool) (a b : Entry) → a.end ≡ o.answer.end → b.end ≡ o.answer.end → (if t then a else b).end ≡ o.answer.end
    go true a b x y = x
    go false a b x y = y

-- the reader took the file, unless the report ends
pub read_whole : (bytes : List ℕ) → is_last (entry_of bytes).number ≡ false → (opened bytes).answer.number ≡ 0
read_whole bytes e =
    elim (lt_or 0 (opened bytes).answer.number) [
      | inl n ↦
          let refused : (opened bytes).answer.number ≡ 0 → ⊥ = λ z. omega arith in
          refusal_last _ answers (sym (ap is_last (entry_refused (opened bytes) refused)) ∙ e)
      | inr n ↦ omega arith
    ]
  where
    answers : Answers (opened bytes).answer.number
    answers = unfold opened in read_answers bytes bench_limit _ _

pub entry_some : (bytes : List ℕ) → is_last (entry_of bytes).number ≡ false → 1 ≤ (entry_of bytes).end
unfolding opened
entry_some bytes e =
    let z = read_whole bytes e in
    omega (arith, entry_end (opened bytes) z, (read_end bytes bench_limit _ _ z).1, three bytes bench_limit)
