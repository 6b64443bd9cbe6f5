-- What mending answers: the counts with the number 0, or a refusal's number with two zeros.
use Rattle.std.specs.Prelude.{Result, Ok, Err}
use Rattle.mending.specs.declared.Mended.{Mended}
use Rattle.refusals.specs.declared.Refusal.{Refusal}
use Rattle.refusals.specs.inner.Numbers.{refusal_number}
use Rattle.patch.specs.declared.Counts.{Counts}

abbrev pub answer_of : Result Counts Refusal → Mended
answer_of (Ok c) = record { number = 0; filled = c.filled; cleared = c.cleared }
answer_of (Err r) = record { number = refusal_number r; filled = 0; cleared = 0 }
