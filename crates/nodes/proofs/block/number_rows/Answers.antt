-- The hits, the first round, the room, the second round; or the refusal. Assumes nothing.
use native.Mathlib.Omega.{arith}
use Rattle.nodes.proofs.Answering.{some_first, beyond_first, all_in, short_said, written_said}
use Rattle.nodes.proofs.block.number_rows.Goals as goal

pub unplaced-requires : goal.unplaced-requires
unplaced-requires c = beyond_first c.args.stored c.args.rows.now (c.spread.ensures.beyond c.if-not-spread.true)

pub unplaced-requires-in_default : goal.unplaced-requires-in_default
unplaced-requires-in_default c = some_first c.args.stored c.args.rows.now c.in_default.ensures

pub returns-then-nodes-count : goal.returns-then-nodes-count
returns-then-nodes-count c =
    let hit = c.spread.ensures.spread c.if-not-spread.false in
    short_said c.args.stored c.args.rows.now hit c.in-Some.ensures c.requires c.args.nodes.now c.if-nodes-count.true

pub assign-requires-clause-all_in : goal.assign-requires-clause-all_in
assign-requires-clause-all_in c =
    all_in c.args.stored c.args.rows.now (c.spread.ensures.spread c.if-not-spread.false) c.in-Some.ensures

pub returns : goal.returns
returns c =
    let hit = c.spread.ensures.spread c.if-not-spread.false in
    written_said c.args.stored c.args.rows.now hit c.in-Some.ensures c.requires c.args.nodes.now (omega arith)
    c.assign.ensures.rows c.assign.ensures.nodes
