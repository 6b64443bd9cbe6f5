-- What is left to lay down, laid down, gives the whole. Assumes nothing.
use Rattle.blockfile.proofs.Laid.{Laid}
use Rattle.blockfile.proofs.cuts.write_cuts.Given as goal

abbrev pub invariant-loop-i : goal.invariant-loop-i
invariant-loop-i l = Laid l.bytes l.head l.count l.first l.total l.initial.table l.table l.k l.at l.i
