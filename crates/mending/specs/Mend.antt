-- Document 02, F-4, "Mend a cut table", and F-9: "The mending tool takes the band too and follows the same labels": what mending answers and
-- leaves in the lent table, for every input.
--     size_of, rounded, held, byte_to   the byte between two samples, by their sizes
--     fault_at                          what filling would say of a byte by itself
--     mended_byte, faults               what becomes of a byte, and how many are at fault
--     Outcome, mended, refused          the outcome of a block that passes the refusals, and of a refusal
--     mend_order, mend                  the call's refusals, in their order; the call
use Rattle.std.specs.Prelude.{ℕ, ◌+◌, ◌*◌, ◌/◌, ◌%◌, List, [], ◌∷◌, map, ℤ, pos, nat_abs, get_or, ltb, eqb, if◌then◌else◌, Option, Some, None}
use Rattle.basics.specs.Lists.{below, count}
use Rattle.lattice.specs.Counts.{points}
use Rattle.lattice.specs.Direction.{as_start}
use Rattle.lattice.specs.Edge.{neighbour}
use Rattle.moving.specs.declared.Label.{Label}
use Rattle.moving.specs.Label.{labels}
use Rattle.moving.specs.Block.{Block}
use Rattle.filling.specs.Check.{cut_fault}
use Rattle.filling.specs.Refusal.{Refusal, first_of, wrong_sizes, wrong_band, wrong_samples, wrong_cuts}
use Rattle.mending.specs.declared.Mended.{Mended}

-- a sample's size: that of -32768 is 32,768
unfoldable pub size_of : ℤ → ℕ
size_of a = nat_abs a

-- "256 times the start's sample size divided by the sum of both sizes, rounded half up": 256 a / (a + b) and a half, the whole part
unfoldable pub rounded : ℕ → ℕ → ℕ
rounded a b = (512 * a + (a + b)) / (2 * (a + b))

-- "held within 1 to 255"
unfoldable pub held : ℕ → ℕ
held r = if ltb r 1 then 1 else if ltb 255 r then 255 else r

abbrev pub size_at : List ℤ → ℕ → ℕ
size_at samples p = size_of (get_or samples p (pos 0))

-- the byte of the edge from p to this neighbour, if it must have one
unfoldable pub byte_to : List ℤ → ℕ → Option ℕ → ℕ
byte_to samples p None = 0
byte_to samples p (Some q) = held (rounded (size_at samples p) (size_at samples q))

-- the answer and the cut table after the call
pub record Outcome : Type 0 where
  pub answer : Mended
  pub cuts : List ℕ

module _ (label : ℕ → Label) (b : Block) where
  -- filling's own test of a byte: 6 where it is missing, 7 where it is stray, else 0
  abbrev pub fault_at : ℕ → ℕ
  fault_at o = cut_fault b.sizes label b.cuts o

  -- "A missing byte becomes .. A stray byte becomes 0. Good bytes stay."
  unfoldable pub mended_byte : ℕ → ℕ
  mended_byte o =
      if eqb (fault_at o) 6 then byte_to b.samples (o / 7) (neighbour b.sizes (o / 7) (as_start (o % 7)))
      else if eqb (fault_at o) 7 then 0
      else get_or b.cuts o 0

  -- how many bytes have fault n: "the number of offsets where the old table breaks that rule"
  unfoldable pub faults : ℕ → ℕ
  faults n = count (λ o. eqb (fault_at o) n) (7 * points b.sizes)

  -- "It answers two counts, the bytes filled in and the bytes cleared"
  abbrev pub mended : Outcome
  mended =
      record {
        answer = record { number = 0; filled = faults 6; cleared = faults 7 };
        cuts = map mended_byte (below (7 * points b.sizes));
      }

-- "A refusal changes nothing and gives two zeros"
abbrev pub refused : List ℕ → ℕ → Outcome
refused cuts n = record { answer = record { number = n; filled = 0; cleared = 0 }; cuts = cuts }

-- "Checks: 1, 2, 3"; F-9: "14 comes directly after 1 in the mending tool as well"
abbrev pub mend_order : ℕ → Block → List Refusal
mend_order band b =
    let s = b.sizes in
    wrong_sizes s ∷ wrong_band band ∷ wrong_samples s b.samples ∷ wrong_cuts s b.cuts ∷ []

unfoldable pub mend : ℕ → Block → Outcome
mend band b = first_of (λ n at. refused b.cuts n) (mend_order band b) (mended (labels band b.samples) b)
