-- After i ids that stand in the table the rest decides. Assumes nothing.
use mathlib.Core.Path.{◌∙◌}
use native.Mathlib.Omega.{arith}
use Rattle.comparison.proofs.Turns.{ids_next, ids_differ, ids_end}
use Rattle.comparison.proofs.tables.same_ids.Goals as goal

pub returns-then-id-from : goal.returns-then-id-from
returns-then-id-from c =
    ids_differ _ _ _ c.loop-i.i (omega arith) (c.from.ensures ∙ c.two_at.ensures) c.if-id-from.true ∙ c.loop-i.invariant

pub loop-i-preserved : goal.loop-i-preserved
loop-i-preserved c =
    ids_next _ _ _ c.loop-i.i (omega arith) (c.from.ensures ∙ c.two_at.ensures) c.if-id-from.false ∙ c.loop-i.invariant

pub returns : goal.returns
returns c = ids_end _ _ _ c.loop-i.i (omega arith) ∙ c.loop-i.invariant
