-- Document 02, F-7: the cases, computed with the length of the input for the limit to the files; that the report is the same says
-- `Cases`. Assumes nothing.
--     all_computed, all_short    each week's lines are what must be printed, and its input is short
--     no_more                    "After 1,000,000 files the report ends with its last line": here after two, of three
use Prim.Native.Nat.{ℕ}
use mathlib.Core.Path.{◌≡◌, refl}
use mathlib.Core.List.{List, [], ◌∷◌, map}
use lib.Dec.{T, leb}
use lib.ListN.{length}
use Rattle.basics.proofs.Test.{◌&◌, every}
use Rattle.casebook.specs.cases.Given.{unchanged, byte_at, laid, laid_runs, given_samples, given_cuts, changed}
use Rattle.casebook.proofs.Opened.{definitions}
use Rattle.filling.specs.Demand.{rows_read}
use Rattle.yakuemi.specs.Measures.{measure}
use Rattle.blockfile.proofs.Opened.{format}
use Rattle.boundary.specs.Sum.{sum, least_from, smallest}
use Rattle.fill_file.specs.program.Summary.{counted as benchCounted, fill_read, refusal as benchRefusal}
use Rattle.text.specs.Text.{ascii, digits_within, decimal, line}
use Rattle.volume_report.specs.program.Report.{opened, filled, measured, refusal, entry_from, line_of, counted, last_line, is_last}
use Rattle.volume_report.specs.program.Report.{most_files, report_from, begun}
use Rattle.volume_report.specs.cases.Weeks.{Week, files, due, weeks}

abbrev pub computed : Week → List (List ℕ)
computed w = report_from (length w.input) begun w.input

-- opened by one name
unfoldable reporting : Unit {0}
unfolding
    definitions laid laid_runs given_samples given_cuts changed format measure rows_read sum least_from smallest
    benchRefusal benchCounted fill_read digits_within decimal line
    opened filled measured refusal entry_from line_of counted last_line is_last report_from begun weeks
reporting = tt

pub all_computed : map computed weeks ≡ map due weeks
unfolding reporting
all_computed = refl

pub all_short : T (every (λ w. leb (length w.input) most_files) weeks)
unfolding reporting ◌&◌
all_short = tt

pub no_more : report_from 2 begun (files (unchanged ∷ byte_at 91 0 ∷ unchanged ∷ []) [])
    ≡ map ascii ("1 24 0 201326592 8388608\n" ∷ "2 refused 6 91\n" ∷ "24 201326592\n" ∷ [])
unfolding reporting
no_more = refl
