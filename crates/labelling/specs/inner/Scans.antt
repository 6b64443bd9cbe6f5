-- What tests and moves read of a scan.
--     label_in     the labels of its points: those of its samples by its band
--     block_in     the block that it is of, with a cut table
use Rattle.std.specs.Prelude.{ℕ, List}
use Rattle.moving.specs.declared.Label.{Label}
use Rattle.moving.specs.Label.{labels}
use Rattle.moving.specs.Block.{Block, block_of}
use Rattle.labelling.specs.declared.scan.Scan.{Scan}

abbrev pub label_in : Scan → ℕ → Label
label_in s = labels s.band s.samples.now

abbrev pub block_in : Scan → List ℕ → Block
block_in s cuts = block_of s.lattice.sizes s.samples.now cuts
