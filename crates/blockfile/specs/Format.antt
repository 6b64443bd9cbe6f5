-- Document 01, "The bench program": a block file, and what reading one answers and leaves in the lent tables, for every input.
-- `read` takes a file from the start of the bytes and says where it ends; `read_whole` refuses what is "too long", as the program does.
use Rattle.std.specs.Prelude.{ℕ, zero, suc, ◌+◌, ◌*◌, ◌-◌, Bool, true, not, ◌&&◌, List, [], ◌∷◌, ◌++◌}
use Rattle.std.specs.Prelude.{ℤ, pos, negsuc, length, get_or, take, drop, replicate, ltb, leb, eqb, if◌then◌else◌}
use Rattle.lattice.specs.declared.Sizes.{Sizes}
use Rattle.lattice.specs.Axis.{somewhere}
use Rattle.lattice.specs.Counts.{size, sizes_fit, points}
use Rattle.blockfile.specs.declared.Run.{Run}

-- "two's complement", of two bytes
unfoldable pub signed : ℕ → ℤ
signed n = if ltb n 32768 then pos n else negsuc (65535 - n)

-- "a run of length 0, past 7N, or starting no later than the first byte after the run before it, so runs never touch":
-- `total` is 7N, and `least` is the least offset at which the next run may start, 0 for the first
unfoldable pub run_fits : ℕ → ℕ → Run → Bool
run_fits total least r = leb 1 r.length && (leb (r.offset + r.length) total && leb least r.offset)

unfoldable pub fit : ℕ → ℕ → List Run → Bool
fit total least [] = true
fit total least (r ∷ rs) = run_fits total least r && fit total (r.offset + r.length + 1) rs

-- how many bytes the runs have together
unfoldable pub lengths : List Run → ℕ
lengths [] = 0
lengths (r ∷ rs) = r.length + lengths rs

-- not "a zero byte in a run"
unfoldable pub no_zero : List ℕ → Bool
no_zero [] = true
no_zero (b ∷ bs) = not (eqb b 0) && no_zero bs

module _ (bytes : List ℕ) where
  -- "Numbers are low byte first": the byte at i, and the numbers of the two and of the four bytes from i on
  abbrev pub one_at : ℕ → ℕ
  one_at i = get_or bytes i 0

  unfoldable pub two_at : ℕ → ℕ
  two_at i = one_at i + 256 * one_at (i + 1)

  unfoldable pub four_at : ℕ → ℕ
  four_at i = two_at i + 65536 * two_at (i + 2)

  -- "three size bytes"
  unfoldable pub file_sizes : Sizes
  file_sizes = record { nx = one_at 0; ny = one_at 1; nz = one_at 2 }

  -- "N samples, two bytes each": n samples from i on
  unfoldable pub samples_from : ℕ → ℕ → List ℤ
  samples_from i zero = []
  samples_from i (suc n) = signed (two_at i) ∷ samples_from (i + 2) n

  -- "per run an offset (four bytes) and a length (two)": a run, and n runs, from i on
  unfoldable pub run_at : ℕ → Run
  run_at i = record { offset = four_at i; length = two_at (i + 4) }

  unfoldable pub runs_from : ℕ → ℕ → List Run
  runs_from i zero = []
  runs_from i (suc n) = run_at i ∷ runs_from (i + 6) n

  -- "then the runs' bytes" .. "Unlisted cut bytes are zero": the cut table from its byte k on, where the bytes of the next run start at i
  unfoldable pub cuts_from : ℕ → ℕ → ℕ → List Run → List ℕ
  cuts_from total k i [] = replicate (total - k) 0
  cuts_from total k i (r ∷ rs) =
      replicate (r.offset - k) 0
      ++ (take r.length (drop i bytes) ++ cuts_from total (r.offset + r.length) (i + r.length) rs)

  -- the parts of a file of n points: after the size bytes and the samples "a two-byte run count", the runs' headers, their bytes
  module _ (n : ℕ) where
    abbrev pub headers : ℕ
    headers = 5 + 2 * n

    abbrev pub run_count : ℕ
    run_count = two_at (3 + 2 * n)

    abbrev pub file_runs : List Run
    file_runs = runs_from headers run_count

    abbrev pub first_byte : ℕ
    first_byte = headers + 6 * run_count

    unfoldable pub end : ℕ
    end = first_byte + lengths file_runs

    unfoldable pub file_cuts : List ℕ
    file_cuts = cuts_from (7 * n) 0 first_byte file_runs

    -- what 11 does not refuse: not "too short", every run fits, and no zero byte in a run. (A run count or a header beyond the end of
    -- the bytes reads as zeros; such a file is too short, whatever they say.)
    unfoldable pub well_formed : Bool
    well_formed = leb end (length bytes) && (fit (7 * n) 0 file_runs && no_zero (take (end - first_byte) (drop first_byte bytes)))

-- a size above the limit
unfoldable pub beyond : ℕ → Sizes → Bool
beyond limit s = somewhere (λ a. ltb limit (size s a))

-- the answer of reading: a number of document 01, the sizes, and where in the bytes the file ends
pub record Read : Type 0 where
  pub number : ℕ
  pub nx : ℕ
  pub ny : ℕ
  pub nz : ℕ
  pub end : ℕ

-- the answer, and the lent tables after reading
pub record Outcome : Type 0 where
  pub answer : Read
  pub samples : List ℤ
  pub cuts : List ℕ

unfoldable pub refusal : ℕ → Read
refusal k = record { number = k; nx = 0; ny = 0; nz = 0; end = 0 }

-- the sizes of an answer
abbrev pub read_sizes : Read → Sizes
read_sizes r = record { nx = r.nx; ny = r.ny; nz = r.nz }

-- a refusal writes nothing
abbrev pub refused : List ℤ → List ℕ → ℕ → Outcome
refused samples cuts k = record { answer = refusal k; samples = samples; cuts = cuts }

module _ (bytes : List ℕ) (samples : List ℤ) (cuts : List ℕ) where
  -- the first N samples and the first 7N cut bytes are the file's; entries beyond stay untouched
  unfoldable pub taken : Sizes → Outcome
  taken s =
      record {
        answer = record { number = 0; nx = s.nx; ny = s.ny; nz = s.nz; end = end bytes (points s) };
        samples = samples_from bytes 3 (points s) ++ drop (points s) samples;
        cuts = file_cuts bytes (points s) ++ drop (7 * points s) cuts;
      }

  -- after the size bytes; a lent table that is too short for the block counts as 12
  unfoldable pub read_body : Sizes → Outcome
  read_body s =
      let block = taken s in
      if ltb (length samples) (points s) then refused samples cuts 12
      else if ltb (length cuts) (7 * points s) then refused samples cuts 12
      else if not (well_formed bytes (points s)) then refused samples cuts 11
      else block

-- "Order: under three bytes 11, 1, 12, 11"
unfoldable pub read : List ℕ → ℕ → List ℤ → List ℕ → Outcome
read bytes limit samples cuts =
    let s = file_sizes bytes in
    let body = read_body bytes samples cuts s in
    if ltb (length bytes) 3 then refused samples cuts 11
    else if not (sizes_fit s) then refused samples cuts 1
    else if beyond limit s then refused samples cuts 12
    else body

-- "too long": the file must be all of the bytes
unfoldable pub read_whole : List ℕ → ℕ → List ℤ → List ℕ → Outcome
read_whole bytes limit samples cuts =
    let o = read bytes limit samples cuts in
    if eqb o.answer.number 0 && ltb o.answer.end (length bytes) then refused samples cuts 11 else o
