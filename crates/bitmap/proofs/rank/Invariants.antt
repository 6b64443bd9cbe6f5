-- The loop's invariant: the words below w are ranked, and the next number is that of w. Assumes nothing.
use Rattle.bitmap.proofs.Loops.{Ranked}
use Rattle.bitmap.proofs.rank.Given as goal

abbrev pub invariant-loop-w : goal.invariant-loop-w
invariant-loop-w l = Ranked l.bits l.first l.ranks l.next l.w
