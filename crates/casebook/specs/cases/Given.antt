-- Document 01, "The bench program": the block of the given case, and changes of its numbers.
use Rattle.std.specs.Prelude.{ℕ, zero, suc, ◌+◌, ◌*◌, List, [], ◌∷◌, ℤ, pos, neg_ℤ, replicate, set}
use Rattle.basics.specs.cases.Table.{Entry, entered}
use Rattle.lattice.specs.declared.Sizes.{Sizes}
use Rattle.lattice.specs.Counts.{points}
use Rattle.moving.specs.Block.{Block, block_of}

-- a run of the cut table: its offset and its length
pub data Run : Type 0 where
  run : ℕ → ℕ → Run

-- a table with n entries from an offset on replaced by t
unfoldable pub laid : ℕ → ℕ → ℕ → List ℕ → List ℕ
laid t o zero table = table
laid t o (suc n) table = laid t (o + 1) n (set table o t)

-- a table with every run replaced by t
unfoldable pub laid_runs : ℕ → List Run → List ℕ → List ℕ
laid_runs t [] table = table
laid_runs t (run o n ∷ rs) table = laid_runs t rs (laid t o n table)

-- "2 by 2 by 2"
abbrev pub given_sizes : Sizes
given_sizes = record { nx = 2; ny = 2; nz = 2 }

-- "sample 13 is 5, all others -5"
unfoldable pub given_samples : List ℤ
given_samples = set (replicate (points given_sizes) (neg_ℤ (pos 5))) 13 (pos 5)

-- "runs (30,1) (71,1) (84,1) (91,7) (192,1) (200,1) (208,1) (216,1), all bytes 128"; "Unlisted cut bytes are zero"
unfoldable pub given_cuts : List ℕ
given_cuts =
    laid_runs 128
    (run 30 1 ∷ run 71 1 ∷ run 84 1 ∷ run 91 7 ∷ run 192 1 ∷ run 200 1 ∷ run 208 1 ∷ run 216 1 ∷ [])
    (replicate (7 * points given_sizes) 0)

-- a table with every entry of a list replaced
unfoldable pub all_entered : List Entry → List ℕ → List ℕ
all_entered [] table = table
all_entered (e ∷ es) table = all_entered es (entered e table)

-- the given case without a cut
unfoldable pub uncut : Block
uncut = block_of given_sizes given_samples (replicate (7 * points given_sizes) 0)

-- a sample at a point, and samples with every one of a list replaced
infix 70 ◌is◌
pub data Sample : Type 0 where
  ◌is◌ : ℕ → ℤ → Sample

unfoldable pub all_sampled : List Sample → List ℤ → List ℤ
all_sampled [] samples = samples
all_sampled ((p is z) ∷ more) samples = all_sampled more (set samples p z)

-- a change of the given block: none, a byte or some bytes of the cut table at values, or a sample at a value
pub data Change : Type 0 where
  unchanged : Change
  byte_at : ℕ → ℕ → Change
  bytes_at : List Entry → Change
  sample_at : ℕ → ℤ → Change

unfoldable pub changed : Change → Block
changed unchanged = block_of given_sizes given_samples given_cuts
changed (byte_at o t) = block_of given_sizes given_samples (set given_cuts o t)
changed (bytes_at es) = block_of given_sizes given_samples (all_entered es given_cuts)
changed (sample_at p z) = block_of given_sizes (set given_samples p z) given_cuts
