-- Written into an empty table the rows are only counted; four numbers a row. Assumes nothing.
use Rattle.emit.proofs.Table.{count_is}
use Rattle.emit.proofs.passes.count_rows.Goals as goal

pub returns : goal.returns
returns c = count_is _ _ c.write_all.ensures
