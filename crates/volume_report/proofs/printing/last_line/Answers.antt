-- Two fields. Assumes nothing.
use mathlib.Core.List.{[]}
use Rattle.text.specs.Text.{decimal}
use Rattle.text.proofs.Fields.{then_more, then_last}
use Rattle.volume_report.proofs.Fields.{last_line_law}
use Rattle.volume_report.proofs.printing.last_line.Goals as goal

pub returns : goal.returns
returns c =
    let t = c.args.t in
    let first = rw c.new-text.ensures at c.push_field.ensures.pushed in
    last_line_law t (then_more [] (decimal t.tetrahedra) first (then_last c.push_field.new.self (decimal t.sum) c.push_field-2.ensures.pushed)).is
