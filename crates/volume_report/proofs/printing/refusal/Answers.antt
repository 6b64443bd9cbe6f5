-- A field, and the line of the refusal after it. Assumes nothing.
use mathlib.Core.List.{[]}
use Rattle.text.specs.Text.{decimal}
use Rattle.text.proofs.Fields.{then_more}
use Rattle.volume_report.proofs.printing.refusal.Goals as goal

pub returns : goal.returns
returns c =
    let first = rw c.new-text.ensures at c.push_field.ensures.pushed in
    let line = then_more [] (decimal c.args.index) first (record { is = c.push_refusal.ensures }) in
    line.is
