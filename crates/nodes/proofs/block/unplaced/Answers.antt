-- The first entry that is refused is there. Assumes nothing.
use Rattle.nodes.proofs.Answering.{refused_entry, unplaced_said}
use Rattle.nodes.proofs.block.unplaced.Goals as goal

pub returns : goal.returns
returns c =
    λ nodes q. unplaced_said c.args.stored c.args.rows.now q nodes c.unwrap.result
    (refused_entry c.args.stored c.args.rows.now c.first_unplaced.ensures c.unwrap.ensures)
