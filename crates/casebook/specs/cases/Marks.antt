-- Document 02, F-8: the given case with points whose labels are zero from the start. The theorem is `marks_come_out` in proofs/Cases.antt. T
-- of the case with a rim sample of 0, and its first row, are worked out in docs/src/reference/tests/marks.rs.
use Rattle.std.specs.Prelude.{List, [], ◌∷◌, pos, replicate, set}
use Rattle.basics.specs.cases.Table.{Entry, ◌:=◌}
use Rattle.moving.specs.Block.{Block, block_of}
use Rattle.stencil.specs.Row.{row}
use Rattle.casebook.specs.cases.Lent.{as_lent, codes, all_marked}
use Rattle.casebook.specs.cases.Given.{given_sizes, given_samples, given_cuts, unchanged, sample_at, changed, uncut, all_entered}
use Rattle.casebook.specs.cases.Cases.{Case, banded, first_row_is, place_is, place_with, filled, too_short, refused, at, nowhere}

-- point 13, the one that is rubber, at 0, and no cut left
unfoldable pub without_rubber : Block
without_rubber = block_of given_sizes (set given_samples 13 (pos 0)) (replicate 245 0)

-- the rim point 27 at 0, without the cut towards it, id 227, and with some bytes changed
unfoldable pub rim_zero : List Entry → Block
rim_zero es = block_of given_sizes (set given_samples 27 (pos 0)) (all_entered ((192 := 0) ∷ es) given_cuts)

unfoldable pub marks : List Case
marks =
    -- sample 13 at 0: "a point with label zero from the start .. Its state byte is to be 15. Its place is its own place"; the cut bytes of the
    -- given case would be strays
    banded 0 without_rubber 0 (filled 0 0) (codes (13 := 15 ∷ [])) (place_is 13 (at 512 512 512) ∷ [])
    ∷ banded 0 (changed (sample_at 13 (pos 0))) 100 (refused 7 30) as_lent []
    -- by the band 4 the cut of byte 91, id 126, has its place; by the band 5 every sample is zero and, by F-9, no edge has a byte
    ∷ banded 4 (changed unchanged) 100 (filled 24 0) (codes []) (place_is 126 (at 768 512 512) ∷ [])
    ∷ banded 5 uncut 100 (filled 0 0) (codes (all_marked 35))
    (place_is 0 (at 0 0 0) ∷ place_is 34 (at 768 768 768) ∷ place_is 126 (nowhere 8) ∷ [])
    -- a rim sample of 0: the row of P1 with point 27 in the place of its cut
    ∷ banded 0 (rim_zero []) 96 (filled 24 0) (codes (27 := 15 ∷ []))
    (first_row_is (row 13 65 235 27) (pos 16777216) ∷ place_is 27 (at 256 256 256) ∷ [])
    -- after 10 the state table is filled, and after any other refusal it is not
    ∷ banded 0 (rim_zero []) 95 (too_short 24 0) (codes (27 := 15 ∷ [])) []
    ∷ banded 0 (changed (sample_at 27 (pos 0))) 96 (refused 7 192) as_lent []
    ∷ banded 32768 (rim_zero []) 96 (refused 14 0) as_lent []
    -- "M now counts codes 1 to 14": P2 and P4 beside the mark
    ∷ banded 0 (rim_zero (91 := 63 ∷ [])) 96 (filled 0 1) (codes (13 := 1 ∷ 27 := 15 ∷ [])) (place_is 13 (at 638 512 512) ∷ [])
    ∷ banded 0 (rim_zero (91 := 193 ∷ [])) 96 (filled 24 1) (codes (14 := 8 ∷ 27 := 15 ∷ [])) (place_is 14 (at 898 512 512) ∷ [])
    -- "Code 15 is believable", wherever it stands, "so 9 begins above 15"; a cut with 15 at its start, or at its end
    ∷ banded 0 (changed unchanged) 96 (filled 24 0) (codes [])
    (place_with (13 := 15) 13 (at 512 512 512)
    ∷ place_with (26 := 15) 26 (at 1024 1024 1024)
    ∷ place_with (13 := 16) 13 (nowhere 9)
    ∷ place_with (26 := 16) 26 (nowhere 9)
    ∷ place_with (13 := 15) 126 (nowhere 8)
    ∷ place_with (14 := 15) 126 (nowhere 8)
    ∷ place_with (15 := 15) 126 (at 768 512 512)
    ∷ [])
    ∷ []
