-- Counted or looked up: the entries become the same. Assumes nothing.
use Rattle.windows.proofs.Putting.{unrolled_same, counted_same}
use Rattle.windows.proofs.Rewriting.{rewrites_same}
use Rattle.nodes.proofs.assign.rewrite_window.Goals as goal

pub returns-in-Some : goal.returns-in-Some
returns-in-Some c = rewrites_same (unrolled_same c.unroll.ensures _) c.rewrite_window.ensures

pub returns-in-None : goal.returns-in-None
returns-in-None c =
    rewrites_same (counted_same c.args.ranking.bits.now.words c.args.ranking.first _) c.rewrite_window-in-None.ensures
