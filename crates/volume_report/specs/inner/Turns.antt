-- The report as the program makes it, a turn at a time: at each turn it holds the start of what is left of its input, and knows no more.
use Rattle.std.specs.Prelude.{ℕ, ◌<◌, ◌≤◌, ◌≡◌, true, false, List, [], ◌∷◌, ◌++◌}
use Rattle.blockfile.specs.inner.Needs.{bench_longest, Held}
use Rattle.fill_file.specs.program.Summary.{bench_limit}
use Rattle.volume_report.specs.declared.Tally.{Tally}
use Rattle.volume_report.specs.program.Report.{entry_of, line_of, counted, last_line, is_last, most_files}

-- the lines that come of what is left of the input, with the totals so far, whatever is held at each turn
pub data Turns : Tally → List ℕ → List (List ℕ) → Type 0 where
  -- after 1,000,000 files nothing more is read
  full : (t : Tally) (left : List ℕ) → most_files ≤ t.files → Turns t left (last_line t ∷ [])
  -- nothing is held: the input has ended
  over : (t : Tally) (left : List ℕ) → t.files < most_files → Held bench_limit bench_longest [] left → Turns t left (last_line t ∷ [])
  -- a file is held, its line is printed, and the report ends with it
  last : (t : Tally) (b : ℕ) (bytes left : List ℕ) → t.files < most_files → Held bench_limit bench_longest (b ∷ bytes) left
      → is_last (entry_of (b ∷ bytes)).number ≡ true
      → Turns t ((b ∷ bytes) ++ left)
      (line_of (counted t (entry_of (b ∷ bytes))).files (entry_of (b ∷ bytes)) ∷ last_line (counted t (entry_of (b ∷ bytes))) ∷ [])
  -- or the next turn goes on with what is left
  next : (t : Tally) (b : ℕ) (bytes left : List ℕ) (rest : List (List ℕ)) → t.files < most_files
      → Held bench_limit bench_longest (b ∷ bytes) left → is_last (entry_of (b ∷ bytes)).number ≡ false
      → Turns (counted t (entry_of (b ∷ bytes))) left rest
      → Turns t ((b ∷ bytes) ++ left) (line_of (counted t (entry_of (b ∷ bytes))).files (entry_of (b ∷ bytes)) ∷ rest)
