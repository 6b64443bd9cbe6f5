-- The totals stay within their bounds, each turn counts a file, and what was written are the first lines of the report.
use Rattle.std.proofs.Common.{◌-◌}
use Rattle.volume_report.specs.program.Report.{most_files}
use Rattle.report.proofs.Reporting.{Reporting}
use Rattle.report.proofs.run.Given as goal

abbrev pub invariant-loop-bytes : goal.invariant-loop-bytes
invariant-loop-bytes g l =
    Reporting (g.R.Read.remaining l.initial.input) (g.R.Read.remaining l.input)
    (g.W.Write.contents l.initial.output) (g.W.Write.contents l.output) l.totals.tally

abbrev pub decreases-loop-bytes : goal.decreases-loop-bytes
decreases-loop-bytes g l = most_files - l.totals.tally.files
