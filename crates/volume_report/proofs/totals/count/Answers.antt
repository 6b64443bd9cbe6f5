-- One file more, and no total overflows. Assumes nothing.
use Rattle.volume_report.proofs.Counted.{count_refused, count_accepted, volumes_kept, volumes_fit, counts_fit}
use Rattle.volume_report.proofs.totals.count.Goals as goal

pub overflow_add-result-3 : goal.overflow_add-result-3
overflow_add-result-3 c =
    record { fits = counts_fit _ _ _ c.in-Ok.is c.args.t.kept c.requires.files_lt_most_files c.requires.small }

pub overflow_add-result-4 : goal.overflow_add-result-4
overflow_add-result-4 c =
    record { fits = volumes_fit _ _ _ c.in-Ok.is c.args.t.kept c.requires.files_lt_most_files c.requires.small }

pub invariant_of-result-2 : goal.invariant_of-result-2
invariant_of-result-2 c =
    record { kept = volumes_kept _ _ _ c.in-Ok.is c.args.t.kept c.requires.files_lt_most_files c.requires.small }

pub returns-in_default : goal.returns-in_default
returns-in_default c = count_refused _ _ _ c.in_default.is

pub returns : goal.returns
returns c = count_accepted _ _ _ c.in-Ok.is
