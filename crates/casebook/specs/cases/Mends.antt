-- Document 02, F-4: the given case with bytes missing and too many, and with samples of other sizes, without a noise band. The theorem is
-- `mends_come_out` in proofs/Cases.antt; F-9's cases, with other bands, are in BandFirst. Edges lead from point 13 to 14 (byte 91), 16, 22
-- and four centres (92 to 97), and to it from 12 (84), 10 (71), 4 (30) and four centres (192, 200, 208, 216).
use Rattle.std.specs.Prelude.{ℕ, ◌*◌, List, [], ◌∷◌, pos, neg_ℤ, replicate, set}
use Rattle.basics.specs.cases.Table.{Entry, ◌:=◌, table_of}
use Rattle.lattice.specs.Counts.{points}
use Rattle.moving.specs.Block.{Block, block_of}
use Rattle.mending.specs.Mend.{Outcome}
use Rattle.casebook.specs.cases.Given.{given_sizes, given_samples, given_cuts, unchanged, bytes_at, sample_at, changed, uncut, all_entered}
use Rattle.casebook.specs.cases.Given.{Sample, ◌is◌, all_sampled}

pub record Mending : Type 0 where
  pub band : ℕ
  pub block : Block
  pub outcome : Outcome

-- a number, so many bytes filled in, so many cleared, and this table
abbrev pub outcome_of : ℕ → ℕ → ℕ → List ℕ → Outcome
outcome_of n f c cuts = record { answer = record { number = n; filled = f; cleared = c }; cuts = cuts }

abbrev answers : ℕ → ℕ → Block → ℕ → ℕ → List ℕ → Mending
answers n band b f c cuts = record { band = band; block = b; outcome = outcome_of n f c cuts }

abbrev mends : Block → ℕ → ℕ → List ℕ → Mending
mends = answers 0 0

abbrev refuses : ℕ → Block → ℕ → Mending
refuses band b n = answers n band b 0 0 b.cuts

-- the given case with these samples, its cut table emptied, and what is to be in it
abbrev emptied : List Sample → ℕ → List Entry → Mending
emptied samples f cuts =
    let n = 7 * points given_sizes in
    mends (block_of given_sizes (all_sampled samples given_samples) (replicate n 0)) f 0 (table_of n cuts)

unfoldable pub mendings : List Mending
mendings =
    -- "A missing byte becomes 256 times the start's sample size divided by the sum of both sizes": equal sizes give 128
    mends uncut 14 0 given_cuts
    -- "Good bytes stay", whatever they are
    ∷ mends (changed unchanged) 0 0 given_cuts
    ∷ mends (changed (bytes_at (91 := 1 ∷ 92 := 255 ∷ 93 := 0 ∷ []))) 1 0 (all_entered (91 := 1 ∷ 92 := 255 ∷ []) given_cuts)
    -- "A stray byte becomes 0": on an edge that does not cross, where no edge is, in the last place, beside a sample of zero
    ∷ mends (changed (bytes_at (0 := 7 ∷ 14 := 9 ∷ 244 := 255 ∷ []))) 0 3 given_cuts
    ∷ mends (changed (sample_at 14 (pos 0))) 0 1 (set given_cuts 91 0)
    -- one of each
    ∷ mends (changed (bytes_at (0 := 7 ∷ 91 := 0 ∷ []))) 1 1 given_cuts
    -- "rounded half up": from 13 to 14 the quotient is 1 1/2, from 12 to 13 it is 254 1/2; 3 and 5 elsewhere
    ∷ emptied (13 is pos 3 ∷ 14 is neg_ℤ (pos 509) ∷ 12 is neg_ℤ (pos 509) ∷ []) 14
    (30 := 160 ∷ 71 := 160 ∷ 84 := 255 ∷ 91 := 2 ∷ 92 := 96 ∷ 93 := 96 ∷ 94 := 96 ∷ 95 := 96 ∷ 96 := 96 ∷ 97 := 96
    ∷ 192 := 160 ∷ 200 := 160 ∷ 208 := 160 ∷ 216 := 160 ∷ [])
    -- "held within 1 to 255": just below 1/2 towards 14, 1/2 towards 16, 255 1/2 from 10 and just above from 12; 1 and 5 elsewhere
    ∷ emptied (13 is pos 1 ∷ 14 is neg_ℤ (pos 512) ∷ 16 is neg_ℤ (pos 511) ∷ 12 is neg_ℤ (pos 512) ∷ 10 is neg_ℤ (pos 511) ∷ []) 14
    (30 := 213 ∷ 71 := 255 ∷ 84 := 255 ∷ 91 := 1 ∷ 92 := 1 ∷ 93 := 43 ∷ 94 := 43 ∷ 95 := 43 ∷ 96 := 43 ∷ 97 := 43
    ∷ 192 := 213 ∷ 200 := 213 ∷ 208 := 213 ∷ 216 := 213 ∷ [])
    -- -32768 has size 32,768, though 16 bits with a sign hold none such: with 32,767 the bytes 91 and 84 would be 24 and 232. 3312 and 5 elsewhere
    ∷ emptied (13 is pos 3312 ∷ 14 is neg_ℤ (pos 32768) ∷ 12 is neg_ℤ (pos 32768) ∷ []) 14
    (30 := 1 ∷ 71 := 1 ∷ 84 := 233 ∷ 91 := 23 ∷ 92 := 255 ∷ 93 := 255 ∷ 94 := 255 ∷ 95 := 255 ∷ 96 := 255 ∷ 97 := 255
    ∷ 192 := 1 ∷ 200 := 1 ∷ 208 := 1 ∷ 216 := 1 ∷ [])
    -- the rim is not tested: point 0, on the outside, is rubber, and its four edges have their bytes too
    ∷ mends (block_of given_sizes (set given_samples 0 (pos 5)) (replicate 245 0)) 18 0
    (all_entered (0 := 128 ∷ 1 := 128 ∷ 2 := 128 ∷ 3 := 128 ∷ []) given_cuts)
    -- "Checks: 1, 2, 3", in this order, and F-9: "14 comes directly after 1"; "A refusal changes nothing and gives two zeros"
    ∷ refuses 32768 (block_of (record { nx = 2; ny = 0; nz = 2 }) [] (replicate 3 9)) 1
    ∷ refuses 0 (block_of (record { nx = 2; ny = 2; nz = 65 }) given_samples (replicate 245 0)) 1
    ∷ refuses 32768 (block_of given_sizes (replicate 34 (pos 5)) (replicate 244 9)) 14
    ∷ refuses 32768 (changed (bytes_at (91 := 0 ∷ []))) 14
    ∷ refuses 32767 (block_of given_sizes (replicate 34 (pos 5)) (replicate 244 9)) 2
    ∷ refuses 0 (block_of given_sizes given_samples (replicate 244 9)) 3
    ∷ refuses 0 (block_of given_sizes given_samples (replicate 246 0)) 3
    ∷ []
