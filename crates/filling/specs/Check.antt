-- Document 01, "The block" and "Calls and refusals": what a block must be like to be filled. Document 02, F-9: "rim and cut-byte tests read
-- labels", which are an argument here.
--     rim_fault, first_rim         refusal 5
--     crosses, cut_fault, first_cut   refusals 6 and 7
--     Accepted                   a block and a band that pass
use Rattle.std.specs.Prelude.{ℕ, ◌*◌, ◌/◌, ◌%◌, ◌≤◌, ◌<◌, ◌≡◌, Bool, false, not, ◌&&◌, List, get_or, eqb, if◌then◌else◌, Option, Some, None}
use Rattle.basics.specs.Lists.{lowest}
use Rattle.lattice.specs.declared.Sizes.{Sizes}
use Rattle.lattice.specs.Counts.{points}
use Rattle.lattice.specs.Direction.{as_start}
use Rattle.lattice.specs.Edge.{neighbour}
use Rattle.lattice.specs.Rim.{rim}
use Rattle.moving.specs.declared.Label.{Label}
use Rattle.moving.specs.Label.{labels, band_most, is_plus, opposed}
use Rattle.moving.specs.Block.{Block, Tabled}

module _ (s : Sizes) (label : ℕ → Label) where
  -- "a rim point's sample is above zero", and by F-9 above the band: its label is plus
  unfoldable pub rim_fault : ℕ → Bool
  rim_fault p = rim s p && is_plus (label p)

  -- the lowest rim point that is at fault, or N
  abbrev pub first_rim : ℕ
  first_rim = lowest rim_fault (points s)

  -- the edge from p to this neighbour crosses: "one end's sample is above zero and the other's below", and by F-9 neither is in the band
  unfoldable pub crosses_to : ℕ → Option ℕ → Bool
  crosses_to p None = false
  crosses_to p (Some q) = opposed (label p) (label q)

  -- so does the edge from p in direction d, if there is one
  abbrev pub crosses : ℕ → ℕ → Bool
  crosses p d = crosses_to p (neighbour s p (as_start d))

  module _ (cuts : List ℕ) where
    -- "A byte must be non-zero exactly where" its edge crosses: 6 for a gap, 7 for a stray byte, 0 if all is well
    unfoldable pub cut_fault : ℕ → ℕ
    cut_fault o =
        if crosses (o / 7) (o % 7) then (if eqb (get_or cuts o 0) 0 then 6 else 0)
        else (if eqb (get_or cuts o 0) 0 then 0 else 7)

    -- the lowest byte that is at fault, or 7N
    abbrev pub first_cut : ℕ
    first_cut = lowest (λ o. not (eqb (cut_fault o) 0)) (7 * points s)

-- a block that filling accepts with a band
pub record Accepted (band : ℕ) (b : Block) : Type 0 where
  pub banded : band ≤ band_most
  pub tabled : Tabled b
  pub rim_fine : (p : ℕ) → p < points b.sizes → rim_fault b.sizes (labels band b.samples) p ≡ false
  pub cuts_fine : (o : ℕ) → o < 7 * points b.sizes → cut_fault b.sizes (labels band b.samples) b.cuts o ≡ 0
