-- A glance, or the search. Assumes nothing.
use Rattle.checks.proofs.Faults.{whole_rest}
use Rattle.checks.proofs.cuts.line_fault.Goals as goal

pub returns : goal.returns
returns c = whole_rest _ c.args.q.own _ _ c.line_search.ensures
