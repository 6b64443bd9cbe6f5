-- So many points of the line have had their turns. Assumes nothing.
use Rattle.lattice.specs.Axis.{along_x}
use Rattle.lattice.specs.Counts.{grid}
use Rattle.moving.specs.Block.{reading_of}
use Rattle.labelling.specs.inner.Scans.{block_in}
use Rattle.warp.proofs.Turning.{Walked}
use Rattle.warp.proofs.moves.warp_line.Given as goal

abbrev pub invariant-loop-x : goal.invariant-loop-x
invariant-loop-x l =
    Walked (reading_of l.scan.band (block_in l.scan l.cuts)) l.q.own (grid l.scan.lattice.sizes l.q.kind along_x) l.initial.state l.state l.moved l.x
