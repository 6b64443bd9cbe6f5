-- Document 02, F-9, "Band before rim": samples in the band on the rim and beside rubber, and what filling and mending answer. The theorem
-- is `kinds_come_out` in proofs/Cases.antt. Separate software gives the same answers; such cases by hand are in
-- docs/src/reference/tests/band_first.rs.
use Rattle.std.specs.Prelude.{ℕ, List, [], ◌∷◌, pos, neg_ℤ, replicate, set}
use Rattle.basics.specs.cases.Table.{Entry, ◌:=◌, table_of}
use Rattle.lattice.specs.Counts.{points}
use Rattle.moving.specs.Block.{Block, block_of}
use Rattle.filling.specs.declared.Filled.{Filled}
use Rattle.casebook.specs.cases.Lent.{State, as_lent, codes}
use Rattle.casebook.specs.cases.Given.{given_sizes, given_cuts, all_entered, Sample, ◌is◌, all_sampled}
use Rattle.casebook.specs.cases.Cases.{Case, banded, filled, too_short, refused}
use Rattle.casebook.specs.cases.Mends.{Mending, outcome_of}

-- the given case with samples of 9 and -9 where it has 5 and -5, so that a band of 5 takes in only what is changed: some samples, some bytes.
-- Point 13 is rubber; byte 91 is of the edge from it to 14, and byte 192 of the edge from the rim point 27 to it
unfoldable pub firm : List Sample → List Entry → Block
firm samples bytes =
    block_of given_sizes (all_sampled samples (set (replicate (points given_sizes) (neg_ℤ (pos 9))) 13 (pos 9))) (all_entered bytes given_cuts)

-- one call of filling: with a band and the length of the lent row table
abbrev call : ℕ → Block → ℕ → Filled → State → Case
call band b n a s = banded band b n a s []

-- a call of mending that is answered
abbrev mends : ℕ → Block → ℕ → ℕ → List ℕ → Mending
mends band b f c cuts = record { band = band; block = b; outcome = outcome_of 0 f c cuts }

unfoldable pub kinds : List Case
kinds =
    -- "A rim sample of 3 with band 5 is zero by the band and rubber by the rim test." "Blocks refused with 5 only for in-band samples go
    -- on to the later tests": it is filled, or another refusal comes
    call 5 (firm (27 is pos 3 ∷ []) (192 := 0 ∷ [])) 96 (filled 24 0) (codes (27 := 15 ∷ []))
    ∷ call 5 (firm (27 is pos 3 ∷ []) (192 := 0 ∷ [])) 95 (too_short 24 0) (codes (27 := 15 ∷ []))
    ∷ call 5 (firm (27 is pos 3 ∷ []) []) 96 (refused 7 192) as_lent
    ∷ call 5 (firm (27 is pos 3 ∷ []) (91 := 0 ∷ 192 := 0 ∷ [])) 96 (refused 6 91) as_lent
    -- the band's end is in it, and one less is not; the band 0 takes in no sample but 0
    ∷ call 3 (firm (27 is pos 3 ∷ []) (192 := 0 ∷ [])) 96 (filled 24 0) (codes (27 := 15 ∷ []))
    ∷ call 2 (firm (27 is pos 3 ∷ []) (192 := 0 ∷ [])) 96 (refused 5 27) as_lent
    ∷ call 0 (firm (27 is pos 3 ∷ []) (192 := 0 ∷ [])) 96 (refused 5 27) as_lent
    -- "A 5 whose lowest point is in the band now names the lowest one outside it, if there is one"
    ∷ call 5 (firm (0 is pos 3 ∷ 27 is pos 8 ∷ 34 is pos 9 ∷ []) []) 96 (refused 5 27) as_lent
    ∷ call 8 (firm (0 is pos 3 ∷ 27 is pos 8 ∷ 34 is pos 9 ∷ []) []) 96 (refused 5 34) as_lent
    ∷ call 5 (firm (0 is pos 8 ∷ 27 is pos 3 ∷ []) []) 96 (refused 5 0) as_lent
    -- "A zero byte on an edge with an in-band end is no longer a 6": the far end is in the band, or the start is
    ∷ call 5 (firm (14 is neg_ℤ (pos 3) ∷ []) (91 := 0 ∷ [])) 96 (filled 24 0) (codes (14 := 15 ∷ []))
    ∷ call 2 (firm (14 is neg_ℤ (pos 3) ∷ []) (91 := 0 ∷ [])) 96 (refused 6 91) as_lent
    ∷ call 5 (firm (27 is neg_ℤ (pos 3) ∷ []) (192 := 0 ∷ [])) 96 (filled 24 0) (codes (27 := 15 ∷ []))
    ∷ call 5 (firm (14 is neg_ℤ (pos 3) ∷ []) (91 := 0 ∷ 97 := 0 ∷ [])) 96 (refused 6 97) as_lent
    -- "A non-zero byte there is now a 7": before a row table that is too short, and before a gap at a later byte
    ∷ call 5 (firm (14 is neg_ℤ (pos 3) ∷ []) []) 96 (refused 7 91) as_lent
    ∷ call 5 (firm (14 is neg_ℤ (pos 3) ∷ []) []) 95 (refused 7 91) as_lent
    ∷ call 5 (firm (14 is neg_ℤ (pos 3) ∷ []) (97 := 0 ∷ [])) 96 (refused 7 91) as_lent
    ∷ call 5 (firm (13 is pos 3 ∷ []) []) 96 (refused 7 30) as_lent
    ∷ call 2 (firm (14 is neg_ℤ (pos 3) ∷ []) []) 96 (filled 24 0) (codes [])
    -- no edge crosses from 15, in the band, to 24, so it needs no byte, and must have none
    ∷ call 5 (firm (15 is neg_ℤ (pos 3) ∷ []) []) 96 (filled 24 0) (codes (15 := 15 ∷ []))
    ∷ call 5 (firm (15 is neg_ℤ (pos 3) ∷ []) (107 := 9 ∷ [])) 96 (refused 7 107) as_lent
    ∷ []

unfoldable pub remendings : List Mending
remendings =
    -- "The mending tool takes the band too and follows the same labels": towards 14 no byte is filled in, and one that is there is cleared
    mends 5 (firm (14 is neg_ℤ (pos 3) ∷ []) (91 := 0 ∷ 92 := 0 ∷ [])) 1 0 (all_entered (91 := 0 ∷ []) given_cuts)
    ∷ mends 5 (firm (14 is neg_ℤ (pos 3) ∷ []) []) 0 1 (all_entered (91 := 0 ∷ []) given_cuts)
    ∷ mends 2 (firm (14 is neg_ℤ (pos 3) ∷ []) (91 := 0 ∷ [])) 1 0 (all_entered (91 := 192 ∷ []) given_cuts)
    -- rubber in the band: nothing is left to cut
    ∷ mends 9 (firm [] []) 0 14 (table_of 245 [])
    ∷ []
