-- The rows over the first entries of the table. Assumes nothing.
use Rattle.emit.proofs.Table.{write_room, overwritten_is}
use Rattle.emit.proofs.passes.write_rows.Goals as goal

pub write_all-requires : goal.write_all-requires
write_all-requires c = record { room = write_room _ _ _ c.requires.state_in_bounds }

pub returns : goal.returns
returns c = overwritten_is _ _ c.requires.state_in_bounds c.write_all.ensures
