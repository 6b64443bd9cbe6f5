-- What the checks of a block answer. The state table is known by its length alone.
--     block_of_table      the block of a cut table and its scan
--     Refuses             filling refuses a block for a reason, whatever else is lent
--     Tables, Checked     the answers of the checks of sizes, band and lengths, and of all
use Rattle.std.specs.Prelude.{ℕ, ◌≡◌, ◌≤◌, List, length, Result, MatchResult}
use Rattle.lattice.specs.Counts.{points}
use Rattle.moving.specs.Label.{band_most}
use Rattle.moving.specs.Block.{Block}
use Rattle.filling.specs.Check.{Accepted}
use Rattle.filling.specs.Fill.{refused, fill}
use Rattle.refusals.specs.declared.Refusal.{Refusal}
use Rattle.refusals.specs.inner.Numbers.{refusal_number, refusal_place}
use Rattle.labelling.specs.inner.Scans.{block_in}
use Rattle.checks.specs.declared.CutTable.{CutTable}

abbrev pub block_of_table : CutTable → Block
block_of_table t = block_in t.scan t.cuts.now

pub record Refuses (band : ℕ) (b : Block) (n : ℕ) (e : Refusal) : Type 0 where
  pub is : (state rows : List ℕ) → n ≡ length state → fill band b state rows ≡ refused state rows (refusal_number e) (refusal_place e)

-- sizes, band and lengths are taken
pub record Taken (band : ℕ) (b : Block) (n : ℕ) (t : CutTable) : Type 0 where
  pub band_is : t.scan.band ≡ band
  pub block_is : block_of_table t ≡ b
  pub banded : band ≤ band_most
  pub state_long : n ≡ points b.sizes

abbrev pub Tables : ℕ → Block → ℕ → Result CutTable Refusal → Type 0
Tables band b n r = MatchResult r (Taken band b n) (Refuses band b n)

abbrev pub Checked : ℕ → Block → ℕ → Result CutTable Refusal → Type 0
Checked band b n r = MatchResult r (λ t. Taken band b n t × Accepted band b) (Refuses band b n)
