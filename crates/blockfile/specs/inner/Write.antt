-- A block as a file: document 01's format the other way round. The runs are the longest rows of non-zero cut bytes.
use Rattle.std.specs.Prelude.{ℕ, ◌+◌, ◌-◌, ◌/◌, ◌%◌, ◌≤◌, ◌≡◌, Bool, true, false, ◌&&◌, List, [], ◌∷◌, ◌++◌, ℤ, pos}
use Rattle.std.specs.Prelude.{negsuc, length, eqb, leb, ltb, if◌then◌else◌}
use Rattle.basics.specs.Lists.{gather}
use Rattle.moving.specs.Block.{Block, Tabled}
use Rattle.blockfile.specs.declared.Run.{Run}
use Rattle.blockfile.specs.Format.{beyond}

-- a number in two bytes, and in four, "low byte first"; what does not fit is lost
unfoldable pub two_bytes : ℕ → List ℕ
two_bytes n = n % 256 ∷ n / 256 % 256 ∷ []

unfoldable pub four_bytes : ℕ → List ℕ
four_bytes n = two_bytes n ++ two_bytes (n / 65536)

-- "two's complement"
unfoldable pub unsigned : ℤ → ℕ
unsigned (pos n) = n
unsigned (negsuc n) = 65535 - n

unfoldable pub sample_bytes : ℤ → List ℕ
sample_bytes z = two_bytes (unsigned z)

-- "per run an offset (four bytes) and a length (two)"
unfoldable pub header : Run → List ℕ
header r = four_bytes r.offset ++ two_bytes r.length

-- a non-zero byte at offset o before these runs: it belongs to the first of them if that one starts right after it
unfoldable pub joined : ℕ → List Run → List Run
joined o [] = record { offset = o; length = 1 } ∷ []
joined o (r ∷ rs) =
    if eqb r.offset (o + 1) then record { offset = o; length = r.length + 1 } ∷ rs
    else record { offset = o; length = 1 } ∷ r ∷ rs

-- the runs of a table whose first byte has offset o, and the bytes in them
unfoldable pub runs_of : ℕ → List ℕ → List Run
runs_of o [] = []
runs_of o (b ∷ bs) = let rest = runs_of (o + 1) bs in if eqb b 0 then rest else joined o rest

unfoldable pub listed : List ℕ → List ℕ
listed [] = []
listed (b ∷ bs) = let rest = listed bs in if eqb b 0 then rest else b ∷ rest

-- "three size bytes; N samples; a two-byte run count; per run an offset and a length; then the runs' bytes"
unfoldable pub write : Block → List ℕ
write b =
    let runs = runs_of 0 b.cuts in
    b.sizes.nx
    ∷ b.sizes.ny
    ∷ b.sizes.nz
    ∷ gather sample_bytes b.samples ++ (two_bytes (length runs) ++ (gather header runs ++ listed b.cuts))

-- numbers that are bytes; samples of sixteen bits; runs at most 65,535 long
unfoldable pub only_bytes : List ℕ → Bool
only_bytes [] = true
only_bytes (x ∷ xs) = ltb x 256 && only_bytes xs

unfoldable pub sixteen : ℤ → Bool
sixteen (pos n) = leb n 32767
sixteen (negsuc n) = leb n 32767

unfoldable pub narrow : List ℤ → Bool
narrow [] = true
narrow (z ∷ zs) = sixteen z && narrow zs

unfoldable pub short : List Run → Bool
short [] = true
short (r ∷ rs) = leb r.length 65535 && short rs

-- the blocks that a file can hold: sizes within the reader's limit, the right number of samples and cut bytes, samples of sixteen bits,
-- at most 65,535 runs, and each at most 65,535 long (a longer one cannot be split, as runs never touch)
pub record Writable (limit : ℕ) (b : Block) : Type 0 where
  pub tabled : Tabled b
  pub within : beyond limit b.sizes ≡ false
  pub narrow_samples : narrow b.samples ≡ true
  pub few_runs : length (runs_of 0 b.cuts) ≤ 65535
  pub short_runs : short (runs_of 0 b.cuts) ≡ true
