-- A block: sizes, a sample for each lattice point and a cut byte for each point and direction. (Block is document 01's word.)
use Rattle.std.specs.Prelude.{ℕ, ◌*◌, ◌<◌, ◌≡◌, List, ℤ, length, get_or}
use Rattle.lattice.specs.declared.Sizes.{Sizes}
use Rattle.lattice.specs.Counts.{Sized, points}
use Rattle.moving.specs.Label.{labels}
use Rattle.moving.specs.Violation.{rule1}
use Rattle.moving.specs.Reading.{Reading}

pub record Block : Type 0 where
  pub sizes : Sizes
  pub samples : List ℤ
  pub cuts : List ℕ

abbrev pub block_of : Sizes → List ℤ → List ℕ → Block
block_of s samples cuts = record { sizes = s; samples = samples; cuts = cuts }

-- what moving reads of a block: labels are by the band, and the rule is document 01's
abbrev pub reading_of : ℕ → Block → Reading
reading_of band b = record { sizes = b.sizes; label = labels band b.samples; cuts = b.cuts; rule = rule1 }

-- sizes that are taken, and tables of the right lengths
pub record Tabled (b : Block) : Type 0 where
  pub sized : Sized b.sizes
  pub samples_long : length b.samples ≡ points b.sizes
  pub cuts_long : length b.cuts ≡ 7 * points b.sizes

-- cut bytes are bytes
abbrev pub Bytes : List ℕ → Type 0
Bytes cuts = (o : ℕ) → get_or cuts o 0 < 256
