-- Files for the reader: document 01's given case byte by byte, and a file or two for each reason of a refusal.
use Rattle.std.specs.Prelude.{ℕ, List, [], ◌∷◌, ◌++◌, ℤ, pos, replicate, take}
use Rattle.basics.specs.Lists.{gather}
use Rattle.blockfile.specs.Format.{Read, read, read_whole, refusal}

-- n times the same bytes
abbrev pub repeated : ℕ → List ℕ → List ℕ
repeated n bytes = gather (λ b. b) (replicate n bytes)

-- "2 by 2 by 2, sample 13 is 5, all others -5; runs (30,1) (71,1) (84,1) (91,7) (192,1) (200,1) (208,1) (216,1), all bytes 128"
unfoldable pub given_file : List ℕ
given_file =
    (2 ∷ 2 ∷ 2 ∷ [])
    ++ (repeated 13 (251 ∷ 255 ∷ []) ++ (5 ∷ 0 ∷ []) ++ repeated 21 (251 ∷ 255 ∷ []))
    ++ (8 ∷ 0 ∷ [])
    ++ (30 ∷ 0 ∷ 0 ∷ 0 ∷ 1 ∷ 0 ∷ [])
    ++ (71 ∷ 0 ∷ 0 ∷ 0 ∷ 1 ∷ 0 ∷ [])
    ++ (84 ∷ 0 ∷ 0 ∷ 0 ∷ 1 ∷ 0 ∷ [])
    ++ (91 ∷ 0 ∷ 0 ∷ 0 ∷ 7 ∷ 0 ∷ [])
    ++ (192 ∷ 0 ∷ 0 ∷ 0 ∷ 1 ∷ 0 ∷ [])
    ++ (200 ∷ 0 ∷ 0 ∷ 0 ∷ 1 ∷ 0 ∷ [])
    ++ (208 ∷ 0 ∷ 0 ∷ 0 ∷ 1 ∷ 0 ∷ [])
    ++ (216 ∷ 0 ∷ 0 ∷ 0 ∷ 1 ∷ 0 ∷ [])
    ++ replicate 14 128

-- one cube: nine samples, the first -32768 and the second 32767, then what follows
abbrev pub one_cube : List ℕ → List ℕ
one_cube rest = (1 ∷ 1 ∷ 1 ∷ []) ++ (0 ∷ 128 ∷ 255 ∷ 127 ∷ []) ++ replicate 14 0 ++ rest

-- the bytes, the limit, how many samples and cut bytes there is room for, and the answer
pub data Example : Type 0 where
  example : List ℕ → ℕ → ℕ → ℕ → Read → Example

abbrev pub one_block : ℕ → Read
one_block stop = record { number = 0; nx = 1; ny = 1; nz = 1; end = stop }

unfoldable pub examples : List Example
examples =
    -- "fewer than three bytes"
    example [] 5 341 2387 (refusal 11)
    ∷ example (0 ∷ 200 ∷ []) 5 341 2387 (refusal 11)
    -- a size outside 1 to 64, whatever the limit
    ∷ example (1 ∷ 0 ∷ 1 ∷ []) 5 341 2387 (refusal 1)
    ∷ example (1 ∷ 1 ∷ 65 ∷ []) 5 341 2387 (refusal 1)
    ∷ example (255 ∷ 1 ∷ 1 ∷ []) 255 341 2387 (refusal 1)
    -- a size above the limit, and room for fewer samples or cut bytes than the block has
    ∷ example (6 ∷ 1 ∷ 1 ∷ []) 5 341 2387 (refusal 12)
    ∷ example (1 ∷ 1 ∷ 64 ∷ []) 5 341 2387 (refusal 12)
    ∷ example (one_cube (0 ∷ 0 ∷ [])) 5 8 63 (refusal 12)
    ∷ example (one_cube (0 ∷ 0 ∷ [])) 5 9 62 (refusal 12)
    -- "too short": in the samples, the run count, a header, the runs' bytes
    ∷ example (1 ∷ 1 ∷ 1 ∷ []) 5 9 63 (refusal 11)
    ∷ example (take 20 (one_cube [])) 5 9 63 (refusal 11)
    ∷ example (one_cube (0 ∷ [])) 5 9 63 (refusal 11)
    ∷ example (one_cube (1 ∷ 0 ∷ 3 ∷ 0 ∷ 0 ∷ 0 ∷ 1 ∷ [])) 5 9 63 (refusal 11)
    ∷ example (one_cube (1 ∷ 0 ∷ 3 ∷ 0 ∷ 0 ∷ 0 ∷ 2 ∷ 0 ∷ 9 ∷ [])) 5 9 63 (refusal 11)
    -- "a run of length 0", "past 7N"
    ∷ example (one_cube (1 ∷ 0 ∷ 3 ∷ 0 ∷ 0 ∷ 0 ∷ 0 ∷ 0 ∷ 9 ∷ [])) 5 9 63 (refusal 11)
    ∷ example (one_cube (1 ∷ 0 ∷ 63 ∷ 0 ∷ 0 ∷ 0 ∷ 1 ∷ 0 ∷ 9 ∷ [])) 5 9 63 (refusal 11)
    ∷ example (one_cube (1 ∷ 0 ∷ 0 ∷ 1 ∷ 0 ∷ 0 ∷ 1 ∷ 0 ∷ 9 ∷ [])) 5 9 63 (refusal 11)
    -- runs that touch, that overlap, that are not sorted
    ∷ example (one_cube (2 ∷ 0 ∷ 3 ∷ 0 ∷ 0 ∷ 0 ∷ 1 ∷ 0 ∷ 4 ∷ 0 ∷ 0 ∷ 0 ∷ 1 ∷ 0 ∷ 9 ∷ 9 ∷ [])) 5 9 63 (refusal 11)
    ∷ example (one_cube (2 ∷ 0 ∷ 3 ∷ 0 ∷ 0 ∷ 0 ∷ 2 ∷ 0 ∷ 4 ∷ 0 ∷ 0 ∷ 0 ∷ 1 ∷ 0 ∷ 9 ∷ 9 ∷ 9 ∷ [])) 5 9 63 (refusal 11)
    ∷ example (one_cube (2 ∷ 0 ∷ 9 ∷ 0 ∷ 0 ∷ 0 ∷ 1 ∷ 0 ∷ 4 ∷ 0 ∷ 0 ∷ 0 ∷ 1 ∷ 0 ∷ 9 ∷ 9 ∷ [])) 5 9 63 (refusal 11)
    -- "a zero byte in a run"
    ∷ example (one_cube (1 ∷ 0 ∷ 3 ∷ 0 ∷ 0 ∷ 0 ∷ 3 ∷ 0 ∷ 9 ∷ 0 ∷ 9 ∷ [])) 5 9 63 (refusal 11)
    -- taken: no run; a run at offset 0 and one that ends with the table; a gap of one byte; more bytes after the end
    ∷ example (one_cube (0 ∷ 0 ∷ [])) 5 9 63 (one_block 23)
    ∷ example (one_cube (2 ∷ 0 ∷ 0 ∷ 0 ∷ 0 ∷ 0 ∷ 1 ∷ 0 ∷ 61 ∷ 0 ∷ 0 ∷ 0 ∷ 2 ∷ 0 ∷ 7 ∷ 8 ∷ 9 ∷ [])) 5 9 63 (one_block 38)
    ∷ example (one_cube (2 ∷ 0 ∷ 3 ∷ 0 ∷ 0 ∷ 0 ∷ 1 ∷ 0 ∷ 5 ∷ 0 ∷ 0 ∷ 0 ∷ 1 ∷ 0 ∷ 8 ∷ 9 ∷ [])) 1 341 2387 (one_block 37)
    ∷ example (one_cube (0 ∷ 0 ∷ 1 ∷ 1 ∷ 1 ∷ [])) 5 9 63 (one_block 23)
    ∷ []

-- the same for a whole file: as long as it should be; a byte more, or another file, is too long; too short; refused before that
unfoldable pub whole_examples : List Example
whole_examples =
    example given_file 5 341 2387 (record { number = 0; nx = 2; ny = 2; nz = 2; end = 137 })
    ∷ example (given_file ++ (0 ∷ [])) 5 341 2387 (refusal 11)
    ∷ example (given_file ++ given_file) 5 341 2387 (refusal 11)
    ∷ example (take 136 given_file) 5 341 2387 (refusal 11)
    ∷ example (one_cube (0 ∷ 0 ∷ [])) 5 9 63 (one_block 23)
    ∷ example (one_cube (0 ∷ 0 ∷ 0 ∷ [])) 5 9 63 (refusal 11)
    ∷ example (0 ∷ 1 ∷ 1 ∷ 0 ∷ []) 5 9 63 (refusal 1)
    ∷ example (6 ∷ 1 ∷ 1 ∷ 0 ∷ []) 5 9 63 (refusal 12)
    ∷ []

-- what a table holds before the call
abbrev pub lent_samples : ℕ → List ℤ
lent_samples n = replicate n (pos 77)

abbrev pub lent_cuts : ℕ → List ℕ
lent_cuts n = replicate n 99

abbrev pub answered : Example → Read
answered (example bytes limit room roomy r) = (read bytes limit (lent_samples room) (lent_cuts roomy)).answer

abbrev pub answered_whole : Example → Read
answered_whole (example bytes limit room roomy r) = (read_whole bytes limit (lent_samples room) (lent_cuts roomy)).answer

abbrev pub expected : Example → Read
expected (example bytes limit room roomy r) = r
