-- The question of the record, with its tables. Assumes nothing.
use Prim.Native.Nat.{◌+◌}
use mathlib.Core.Path.{◌∙◌}
use Rattle.replay.proofs.Asking.{answer_is, placed_same}
use Rattle.replay.proofs.Composed.{part_is}
use Rattle.replay.proofs.questions.Recorded.is_answered.Goals as goal

pub returns : goal.returns
returns c =
    let body = c.args.self.body.now in
    let a = c.args.self.asked in
    rw (← part_is body 3 a.cuts, ← part_is body (3 + a.cuts) a.state)
    (answer_is _ _ _ _ _ c.from.ensures c.from-2.ensures c.from-3.ensures c.four_at.ensures
    c.yakuemi_place-placed.ensures c.stated_place.ensures (c.eq.ensures ∙ placed_same _ _))
