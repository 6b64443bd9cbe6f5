-- Both state bytes are 0. Assumes nothing.
use mathlib.Core.Path.{sym, ap, ◌∙◌}
use mathlib.Core.Bool.{not}
use Rattle.warp.proofs.Live.{near_faded, far_decides}
use Rattle.warp.proofs.moves.is_live.Goals as goal

pub returns-then-not-says_zero : goal.returns-then-not-says_zero
returns-then-not-says_zero c =
    ap not c.says_zero-then-not-says_zero.ensures
    ∙ far_decides c.args.state.now c.args.p c.args.q (sym c.says_zero.ensures ∙ c.if-not-says_zero.true)

pub returns-else-not-says_zero : goal.returns-else-not-says_zero
returns-else-not-says_zero c =
    ap not c.if-not-says_zero.false
    ∙ near_faded c.args.state.now c.args.p c.args.q (sym c.says_zero.ensures ∙ c.if-not-says_zero.false)
