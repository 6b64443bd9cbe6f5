-- The points before the next line have had their turns. Assumes nothing.
use Prim.Native.Nat.{ℕ}
use Rattle.moving.specs.Block.{reading_of}
use Rattle.labelling.specs.inner.Scans.{block_in}
use Rattle.lines.specs.inner.Walk.{Walks}
use Rattle.warp.proofs.Turning.{Passed}
use Rattle.warp.proofs.moves.warp.Given as goal

abbrev pub invariant-loop-q : goal.invariant-loop-q
invariant-loop-q l =
    (p : ℕ) × Walks l.scan.lattice.sizes p l.q-iterator × Passed (reading_of l.scan.band (block_in l.scan l.cuts)) p l.state l.moved
