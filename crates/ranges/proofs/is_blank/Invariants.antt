-- The loop's invariant: where nothing was seen, the eights tested so far are zero. Assumes nothing.
use Rattle.ranges.proofs.Eights.{Seen}
use Rattle.ranges.proofs.is_blank.Given as goal

abbrev pub invariant-loop-eight : goal.invariant-loop-eight
invariant-loop-eight l = Seen l.eights l.eight-index l.seen
