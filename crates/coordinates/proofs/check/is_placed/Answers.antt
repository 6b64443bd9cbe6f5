-- A point that did not move, or what was found. Assumes nothing.
use mathlib.Core.Path.{sym, ap, ◌∙◌}
use Rattle.moving.specs.State.{no_move}
use Rattle.coordinates.proofs.Checking.{at_rest, found_ok}
use Rattle.coordinates.proofs.check.is_placed.Goals as goal

pub returns-then-no_move : goal.returns-then-no_move
returns-then-no_move c =
    at_rest c.args.stored c.args.id c.if-id-stored.true (ap no_move (sym c.from.ensures) ∙ sym c.no_move.ensures ∙ c.if-no_move.true)

pub returns : goal.returns
returns c = c.is_ok.ensures.value ∙ found_ok c.args.stored c.args.id c.locate.result c.locate.ensures.answer
