-- Document 02, F-3: the given case with bands, and a rod of rubber that a point in the band splits. The theorem is `bands_come_out` in
-- proofs/Cases.antt. T and M of the rod, and its first row, are what separate software gives (docs/src/reference/tests/band.rs).
use Rattle.std.specs.Prelude.{ℕ, ◌*◌, ◌/◌, ◌%◌, List, [], ◌∷◌, map, ℤ, pos, neg_ℤ, replicate, set, if◌then◌else◌}
use Rattle.basics.specs.Lists.{below}
use Rattle.basics.specs.cases.Table.{Entry, ◌:=◌}
use Rattle.lattice.specs.declared.Sizes.{Sizes}
use Rattle.lattice.specs.Counts.{points}
use Rattle.moving.specs.Label.{labels}
use Rattle.moving.specs.Block.{Block, block_of}
use Rattle.stencil.specs.Row.{row}
use Rattle.filling.specs.Check.{crosses}
use Rattle.casebook.specs.cases.Lent.{as_lent, codes, all_marked}
use Rattle.casebook.specs.cases.Given.{given_sizes, given_samples, given_cuts, unchanged, byte_at, sample_at, changed, uncut, all_entered}
use Rattle.casebook.specs.cases.Cases.{Case, banded, first_row_is, place_is, filled, too_short, refused, at}

-- the corners inside 4 by 2 by 2 cubes are 21, 22 and 23, side by side along x
abbrev rod_sizes : Sizes
rod_sizes = record { nx = 4; ny = 2; nz = 2 }

-- rubber at all three, thin at 22, and air elsewhere
unfoldable pub rod_samples : List ℤ
rod_samples = set (set (set (replicate (points rod_sizes) (neg_ℤ (pos 5))) 21 (pos 5)) 22 (pos 3)) 23 (pos 5)

-- the skin halfway along every edge that crosses it by a band, but for some bytes
unfoldable pub rod : ℕ → List Entry → Block
rod band changes =
    block_of rod_sizes rod_samples
    (all_entered changes
    (map (λ o. if crosses rod_sizes (labels band rod_samples) (o / 7) (o % 7) then 128 else 0) (below (7 * points rod_sizes))))

unfoldable pub bands : List Case
bands =
    -- "Band 0 changes no answer"; and the sample of point 13, the one that is rubber, is 5
    banded 0 (changed unchanged) 100 (filled 24 0) (codes []) (first_row_is (row 13 65 235 227) (pos 8388608) ∷ [])
    ∷ banded 4 (changed unchanged) 100 (filled 24 0) (codes []) (first_row_is (row 13 65 235 227) (pos 8388608) ∷ [])
    -- "A sample whose size is at most the band has label zero": no row is left, and no table is too short for none
    ∷ banded 5 uncut 0 (filled 0 0) (codes (all_marked 35)) (place_is 13 (at 512 512 512) ∷ [])
    ∷ banded 32767 uncut 100 (filled 0 0) (codes (all_marked 35)) []
    -- "14 "band", the band is above 32767 .. it writes nothing"
    ∷ banded 32768 (changed unchanged) 100 (refused 14 0) as_lent []
    -- P2's cut, id 126, moves point 13 while both its ends are outside the band; in it, by F-9, its byte is a 7, as every other one is
    ∷ banded 4 (changed (byte_at 91 63)) 100 (filled 0 1) (codes (13 := 1 ∷ [])) (place_is 13 (at 638 512 512) ∷ [])
    ∷ banded 5 (changed (byte_at 91 63)) 100 (refused 7 30) as_lent []
    -- P12, P10 and P11 in a band that takes in every sample: by F-9 neither a 5 nor a 6 is left, and every byte that is not 0 is a 7
    ∷ banded 5 (changed (sample_at 27 (pos 1))) 100 (refused 7 30) as_lent []
    ∷ banded 5 (changed (byte_at 91 0)) 100 (refused 7 30) as_lent []
    ∷ banded 5 (changed (byte_at 0 7)) 100 (refused 7 0) as_lent []
    -- -32768 has size 32,768, though 16 bits hold no such size: point 14 is not in the band, and P2's cut towards it moves point 13
    ∷ banded 4 (block_of given_sizes (set given_samples 14 (neg_ℤ (pos 32768))) (set given_cuts 91 63)) 100 (filled 0 1) (codes (13 := 1 ∷ [])) []
    -- the rod, and with 22 in the band what is left of it about 21 and 23: as many rows as two given cases have
    ∷ banded 2 (rod 2 []) 320 (filled 80 0) (codes []) (first_row_is (row 21 105 387 379) (pos 8388608) ∷ [])
    ∷ banded 3 (rod 3 []) 192 (filled 48 0) (codes (22 := 15 ∷ []))
    (first_row_is (row 21 105 387 379) (pos 8388608) ∷ place_is 22 (at 1024 512 512) ∷ [])
    ∷ banded 3 (rod 3 []) 191 (too_short 48 0) (codes (22 := 15 ∷ [])) []
    ∷ banded 5 (rod 5 []) 0 (filled 0 0) (codes (all_marked (points rod_sizes))) []
    -- a cut that violates 22, and one that violates the point beyond it: with 22 in the band there is no such cut, by F-9
    ∷ banded 2 (rod 2 (155 := 63 ∷ [])) 320 (filled 48 1) (codes (22 := 2 ∷ [])) (place_is 22 (at 1024 638 512) ∷ [])
    ∷ banded 2 (rod 2 (155 := 193 ∷ [])) 320 (filled 80 1) (codes (27 := 9 ∷ [])) (place_is 27 (at 1024 898 512) ∷ [])
    ∷ banded 3 (rod 3 (155 := 63 ∷ [])) 320 (refused 7 155) as_lent []
    ∷ []
