-- How large an entry's numbers and the totals can be, so that no total overflows.
use Rattle.std.specs.Prelude.{ℕ, ◌*◌, ◌≤◌}
use Rattle.bounds.specs.inner.Most.{volume_most, rows_most}
use Rattle.volume_report.specs.declared.Tally.{Tally}
use Rattle.volume_report.specs.program.Report.{Entry, most_files}

-- the sum of a block's six-volumes
abbrev pub sum_most : ℕ
sum_most = rows_most * volume_most

pub record Small (e : Entry) : Type 0 where
  pub rows : e.tetrahedra ≤ rows_most
  pub sums : e.sum ≤ sum_most

-- the totals of so many files
pub record Kept (t : Tally) : Type 0 where
  pub files : t.files ≤ most_files
  pub rows : t.tetrahedra ≤ rows_most * t.files
  pub sums : t.sum ≤ sum_most * t.files
