-- A word and two fields. Assumes nothing.
use Rattle.text.specs.Text.{ascii, decimal}
use Rattle.text.proofs.Fields.{then_more, then_last}
use Rattle.fill_file.proofs.printing.push_refusal.Goals as goal

pub returns : goal.returns
returns g c =
    let r = c.args.r in
    let number = rw c.from.ensures at c.push_field.ensures.pushed in
    let line =
    then_more c.args.text.now (ascii "refused") c.push.ensures
    (then_more c.push.new.self (decimal r.number) number
    (then_last c.push_field.new.self (decimal r.place) c.push_field-2.ensures.pushed)) in
    line.is
