-- The totals after one file more, and that a million files of 5 by 5 by 5 cubes do not overflow them. Assumes nothing.
use Prim.Native.Nat.{ℕ, ◌+◌, ◌<◌}
use native.Mathlib.Omega.{arith}
use mathlib.Core.Path.{◌≡◌, refl, sym, ap, ◌∙◌}
use mathlib.Core.Bool.{Bool, true, false}
use lib.Dec.{eqb, ltb, ltb→lt}
use borrow.Author.Tests.{eq-eqb, ne_eqb}
use Rattle.std.specs.Prelude.{if◌then◌else◌, Result, Ok, Err}
use Rattle.fill_file.specs.declared.answers.Refused.{Refused}
use Rattle.volume_report.specs.declared.Volumes.{Volumes}
use Rattle.basics.proofs.Test.{true_T}
use Rattle.volume_report.specs.declared.Tally.{Tally}
use Rattle.volume_report.specs.program.Report.{Entry, refusal, counted, most_files}
use Rattle.volume_report.specs.inner.Answer.{entry_with}
use Rattle.volume_report.specs.inner.Small.{Small, Kept}

module _ (t : Tally) (e : Entry) where
  pub refused_counted : (e.number ≡ 0 → ⊥) → record { files = t.files + 1; tetrahedra = t.tetrahedra; sum = t.sum } ≡ counted t e
  unfolding counted
  refused_counted n = rw (ne_eqb e.number 0 n) refl

  pub accepted_counted : e.number ≡ 0
      → record { files = t.files + 1; tetrahedra = t.tetrahedra + e.tetrahedra; sum = t.sum + e.sum } ≡ counted t e
  unfolding counted
  accepted_counted z = rw (eq-eqb e.number 0 z) refl

  module _ (k : Kept t) (more : t.files < most_files) (s : Small e) where
    pub accepted_kept : Kept (record { files = t.files + 1; tetrahedra = t.tetrahedra + e.tetrahedra; sum = t.sum + e.sum })
    accepted_kept =
        record { files = omega arith; rows = omega (arith, k.rows, s.rows); sums = omega (arith, k.sums, s.sums) }

    -- 1,000,000 times 3,600 rows of at most 4,294,967,296 are below 2^64
    pub sum_fits : t.sum + e.sum < 18446744073709551616
    sum_fits = omega (arith, k.sums, s.sums)

    pub rows_fit : t.tetrahedra + e.tetrahedra < 18446744073709551616
    rows_fit = omega (arith, k.rows, s.rows)

-- the same of what a call gives
module _ (t : Tally) (r : Result Volumes Refused) (end : ℕ) where
  pub count_refused : {d : Refused} → r ≡ Err d
      → record { files = t.files + 1; tetrahedra = t.tetrahedra; sum = t.sum } ≡ counted t (entry_with r end)
  unfolding entry_with refusal
  count_refused {d} e = let h = d.refuses in rw e (refused_counted t _ (λ z. omega arith))

  module _ {v : Volumes} (e : r ≡ Ok v) where
    pub count_accepted : record { files = t.files + 1; tetrahedra = t.tetrahedra + v.tetrahedra; sum = t.sum + v.sum }
        ≡ counted t (entry_with r end)
    unfolding entry_with
    count_accepted = rw e (accepted_counted t _ refl)

    module _ (k : Kept t) (more : t.files < most_files) (s : Small (entry_with r end)) where
      small_as : Small (entry_with (Ok v) end)
      small_as = rw e at s

      pub volumes_kept : Kept (record { files = t.files + 1; tetrahedra = t.tetrahedra + v.tetrahedra; sum = t.sum + v.sum })
      unfolding entry_with
      volumes_kept = accepted_kept t _ k more small_as

      pub volumes_fit : t.sum + v.sum < 18446744073709551616
      unfolding entry_with
      volumes_fit = sum_fits t _ k more small_as

      pub counts_fit : t.tetrahedra + v.tetrahedra < 18446744073709551616
      unfolding entry_with
      counts_fit = rows_fit t _ k more small_as

-- a file more
pub files_more : (t : Tally) (e : Entry) → (counted t e).files ≡ t.files + 1
unfolding counted
files_more t e = go (eqb e.number 0) _ _ refl refl
  where
    go : (c : Bool) (x y : Tally) → x.files ≡ t.files + 1 → y.files ≡ t.files + 1 → (if c then x else y).files ≡ t.files + 1
    go true x y p q = p
    go false x y p q = q

pub counts_more : (t : Tally) (e : Entry) {after : Tally} → after ≡ counted t e → after.files ≡ t.files + 1
counts_more t e g = ap (λ (t : Tally). t.files) g ∙ files_more t e

-- more files may come
pub more_come : (t : Tally) {r : Bool} → r ≡ ltb t.files most_files → r ≡ true → t.files < most_files
more_come t e g = ltb→lt t.files most_files (true_T _ (sym e ∙ g))
