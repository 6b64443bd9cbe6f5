-- Reading a block file by the public call: `read` of `blockfile`, for every size of document 01. So 12 says only that a lent table is
-- too short for the block.
use Rattle.std.specs.Prelude.{ℕ, List, ℤ}
use Rattle.lattice.specs.Counts.{largest}
use Rattle.blockfile.specs.Format.{Read, Outcome, read}
use Rattle.yakuemi.specs.declared.read.ReadFile.{ReadFile}

unfoldable pub read_file : List ℕ → List ℤ → List ℕ → Outcome
read_file bytes samples cuts = read bytes largest samples cuts

-- the same numbers, in the form for C
unfoldable pub answer_of : Read → ReadFile
answer_of r = record { number = r.number; nx = r.nx; ny = r.ny; nz = r.nz; end = r.end }
