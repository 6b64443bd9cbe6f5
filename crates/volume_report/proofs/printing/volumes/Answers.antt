-- Five fields, one after the other. Assumes nothing.
use mathlib.Core.List.{[]}
use Rattle.text.specs.Text.{decimal}
use Rattle.text.proofs.Fields.{then_more, then_last}
use Rattle.volume_report.proofs.printing.volumes.Goals as goal

pub returns : goal.returns
returns c =
    let v = c.args.v in
    let first = rw c.new-text.ensures at c.push_field.ensures.pushed in
    let line =
    then_more [] (decimal c.args.index) first
    (then_more c.push_field.new.self (decimal v.tetrahedra) c.push_field-2.ensures.pushed
    (then_more c.push_field-2.new.self (decimal v.moved) c.push_field-3.ensures.pushed
    (then_more c.push_field-3.new.self (decimal v.sum) c.push_field-4.ensures.pushed
    (then_last c.push_field-4.new.self (decimal v.smallest) c.push_field-5.ensures.pushed)))) in
    line.is
