-- The front of the node table, lent and filled. Assumes nothing.
use Rattle.nodes.proofs.Filled.{overwritten_by}
use Rattle.nodes.proofs.assign.assign.Goals as goal

pub returns-clause-nodes : goal.returns-clause-nodes
returns-clause-nodes c =
    overwritten_by c.args.nodes.now c.requires.end_in_bounds c.assign_all.auto.nodes c.assign_all.ensures.nodes
