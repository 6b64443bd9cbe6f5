-- The entry that the code gives as volumes or as a refusal.
use Rattle.std.specs.Prelude.{ℕ, Result, Ok, Err}
use Rattle.fill_file.specs.declared.answers.Refused.{Refused}
use Rattle.volume_report.specs.declared.Volumes.{Volumes}
use Rattle.volume_report.specs.declared.Outcome.{Outcome}
use Rattle.volume_report.specs.program.Report.{Entry, refusal}

unfoldable pub entry_with : Result Volumes Refused → ℕ → Entry
entry_with (Ok v) end =
    record { number = 0; place = 0; tetrahedra = v.tetrahedra; moved = v.moved; sum = v.sum; smallest = v.smallest; end = end }
entry_with (Err r) end = refusal r.number r.place end

abbrev pub answer_of : Outcome → Entry
answer_of o = entry_with o.volumes o.end
