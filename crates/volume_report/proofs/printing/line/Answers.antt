-- The line of a refusal, or of volumes. Assumes nothing.
use native.Mathlib.Omega.{arith}
use mathlib.Core.Path.{refl}
use Rattle.volume_report.specs.program.Report.{refusal}
use Rattle.volume_report.specs.inner.Answer.{entry_with}
use Rattle.volume_report.proofs.Fields.{volumes_line, refusal_line}
use Rattle.volume_report.proofs.printing.line.Goals as goal

pub returns-in-Ok : goal.returns-in-Ok
unfolding entry_with
returns-in-Ok c = rw c.in-Ok.is (volumes_line _ _ refl c.volumes.ensures)

pub returns-in-Err : goal.returns-in-Err
unfolding entry_with refusal
returns-in-Err c = rw c.in-Err.is (refusal_line _ _ (λ z. omega arith) c.refusal.ensures)
