-- The answer, then the tables. Assumes nothing.
use mathlib.Core.Path.{◌≡◌, sym, ap₂, ◌∙◌}
use borrow.Author.Tests.{not-false}
use Rattle.comparison.specs.program.Same.{same_answer}
use Rattle.comparison.proofs.Decided.{answer_same}
use Rattle.replay.specs.program.Fills.{answer_of, replayed, stated_tables}
use Rattle.replay.proofs.Composed.{not_so, answer_differs, tables_decide}
use Rattle.replay.proofs.fills.Recorded.is_agreed.Goals.{After-ne}
use Rattle.replay.proofs.fills.Recorded.is_agreed.Goals as goal

answered : (c : After-ne)
    → same_answer c.replay-filled.result c.answer_of.result
    ≡ same_answer (replayed c.args.self.head.now c.args.self.body.now c.args.self.lengths).answer (answer_of c.args.self.head.now)
answered c = ap₂ same_answer c.replay-filled.ensures.value c.answer_of.ensures

pub returns-then-ne : goal.returns-then-ne
returns-then-ne c =
    answer_differs _ _ _ (answered (goal.at.returns-then-ne c).After-ne)
    (sym (answer_same c.replay-filled.result c.answer_of.result) ∙ not_so _ (sym c.ne.ensures ∙ c.if-ne.true))

pub returns : goal.returns
returns c =
    tables_decide _ _ _ (answered (goal.at.returns c).After-ne)
    (sym (answer_same c.replay-filled.result c.answer_of.result) ∙ not-false _ (sym c.ne.ensures ∙ c.if-ne.false))
    (c.are_stated.ensures ∙ ap₂ (stated_tables _ _ _) c.replay-filled.ensures.state_after c.replay-filled.ensures.rows_after)
