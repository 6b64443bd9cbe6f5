-- What mending makes of pairs of samples, and of the least blocks. Assumes nothing. (Files are checked in the order of their names: this
-- one first, so that a wrong rule is refused by what it gives.)
use Prim.Native.Nat.{ℕ}
use mathlib.Core.Path.{◌≡◌, refl}
use mathlib.Core.List.{List, [], ◌∷◌, map}
use lib.IntN.{ℤ, pos, neg_ℤ}
use lib.ListN.{replicate, set}
use Rattle.basics.specs.cases.Table.{Entry, ◌:=◌, table_of}
use Rattle.lattice.specs.declared.Sizes.{Sizes}
use Rattle.moving.specs.Block.{Block, block_of}
use Rattle.filling.proofs.Opened.{definitions}
use Rattle.mending.specs.Mend.{Outcome, size_of, rounded, held, byte_to, mended_byte, faults, mend}

-- the samples of an edge's start and of its far end
infix 70 ◌to◌
pub data Pair : Type 0 where
  ◌to◌ : ℤ → ℤ → Pair

abbrev byte_of : Pair → ℕ
byte_of (a to b) = held (rounded (size_of a) (size_of b))

-- equal sizes; 3 and 5; halves, which go up; just below 1/2, held to 1; 255 1/2 and more, held to 255; -32768, whose size is not 32,767
unfoldable pub pairs : List Pair
pairs =
    pos 5 to neg_ℤ (pos 5)
    ∷ neg_ℤ (pos 3) to pos 5
    ∷ pos 1 to neg_ℤ (pos 511)
    ∷ pos 3 to neg_ℤ (pos 509)
    ∷ pos 509 to neg_ℤ (pos 3)
    ∷ pos 1 to neg_ℤ (pos 512)
    ∷ pos 511 to neg_ℤ (pos 1)
    ∷ pos 32767 to neg_ℤ (pos 1)
    ∷ pos 3312 to neg_ℤ (pos 32768)
    ∷ neg_ℤ (pos 32768) to pos 3312
    ∷ []

pub bytes_so : map byte_of pairs ≡ 128 ∷ 96 ∷ 1 ∷ 2 ∷ 255 ∷ 1 ∷ 255 ∷ 255 ∷ 23 ∷ 233 ∷ []
unfolding held rounded size_of pairs
bytes_so = refl

abbrev cubes : ℕ → Sizes
cubes n = record { nx = n; ny = n; nz = n }

-- one cube: its centre, number 8, has a sample of 3, its corners have -5. The eight edges that cross have the bytes 3, 11, 19, 27 (from
-- corners) and 59 to 62 (to corners)
abbrev cube : List Entry → Block
cube cuts = block_of (cubes 1) (set (replicate 9 (neg_ℤ (pos 5))) 8 (pos 3)) (table_of 63 cuts)

-- a call: the band and the block
pub record Call : Type 0 where
  pub band : ℕ
  pub block : Block

abbrev call : ℕ → Block → Call
call band b = record { band = band; block = b }

unfoldable pub calls : List Call
calls =
    -- F-9: "14 comes directly after 1 in the mending tool as well"
    call 32768 (block_of (cubes 0) [] (replicate 3 9))
    ∷ call 32768 (block_of (cubes 1) (replicate 8 (pos 5)) (replicate 62 9))
    ∷ call 32767 (block_of (cubes 1) (replicate 8 (pos 5)) (replicate 62 9))
    ∷ call 0 (block_of (cubes 1) (replicate 9 (pos 5)) (replicate 62 9))
    -- a byte that is good, and stray ones: on an edge that does not cross, and twice where no edge is
    ∷ call 0 (cube (59 := 77 ∷ 0 := 9 ∷ 7 := 9 ∷ 58 := 9 ∷ []))
    -- F-9: "follows the same labels": the centre is outside the band 2 and in the band 3
    ∷ call 2 (cube (59 := 77 ∷ 0 := 9 ∷ 7 := 9 ∷ 58 := 9 ∷ []))
    ∷ call 3 (cube (59 := 77 ∷ 0 := 9 ∷ 7 := 9 ∷ 58 := 9 ∷ []))
    ∷ []

abbrev outcome : ℕ → ℕ → ℕ → List ℕ → Outcome
outcome n f c cuts = record { answer = record { number = n; filled = f; cleared = c }; cuts = cuts }

unfoldable pub outcomes : List Outcome
outcomes =
    outcome 1 0 0 (replicate 3 9)
    ∷ outcome 14 0 0 (replicate 62 9)
    ∷ outcome 2 0 0 (replicate 62 9)
    ∷ outcome 3 0 0 (replicate 62 9)
    ∷ outcome 0 7 3 (table_of 63 (3 := 160 ∷ 11 := 160 ∷ 19 := 160 ∷ 27 := 160 ∷ 59 := 77 ∷ 60 := 96 ∷ 61 := 96 ∷ 62 := 96 ∷ []))
    ∷ outcome 0 7 3 (table_of 63 (3 := 160 ∷ 11 := 160 ∷ 19 := 160 ∷ 27 := 160 ∷ 59 := 77 ∷ 60 := 96 ∷ 61 := 96 ∷ 62 := 96 ∷ []))
    ∷ outcome 0 0 4 (table_of 63 [])
    ∷ []

pub mends_so : map (λ c. mend c.band c.block) calls ≡ outcomes
unfolding definitions size_of rounded held byte_to mended_byte faults mend calls outcomes
mends_so = refl
