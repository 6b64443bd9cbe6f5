-- The summary that the code gives as counts or as a refusal.
use Rattle.std.specs.Prelude.{Result, Ok, Err}
use Rattle.fill_file.specs.declared.answers.Counts.{Counts}
use Rattle.fill_file.specs.declared.answers.Refused.{Refused}
use Rattle.fill_file.specs.program.Summary.{Summary, refusal}

unfoldable pub answer_of : Result Counts Refused → Summary
answer_of (Ok c) = record { number = 0; place = 0; points = c.points; lattice = c.lattice; moved = c.moved; emitted = c.emitted }
answer_of (Err r) = refusal r.number r.place
