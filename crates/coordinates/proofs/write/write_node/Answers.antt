-- The four numbers, copied. Assumes nothing.
use Rattle.coordinates.proofs.Writing.{node_written}
use Rattle.coordinates.proofs.write.write_node.Goals as goal

pub returns : goal.returns
returns c = node_written c.requires.at_in_bounds c.copy_from_slice.ensures.after c.locate_id-p.ensures
