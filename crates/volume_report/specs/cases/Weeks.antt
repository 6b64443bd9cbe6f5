-- Document 02, F-7: weeks of block files, each with the lines that the report must print.
use Rattle.std.specs.Prelude.{ℕ, List, [], ◌∷◌, ◌++◌, map, pos, take}
use Prim.Native.String.{String}
use Rattle.basics.specs.Lists.{gather}
use Rattle.casebook.specs.cases.Given.{Change, unchanged, byte_at, sample_at, changed}
use Rattle.blockfile.specs.inner.Write.{write}
use Rattle.text.specs.Text.{ascii}

pub record Week : Type 0 where
  pub input : List ℕ
  pub lines : List String

-- document 01's given case, changed or not, as a file; files one after another, and bytes after them
abbrev pub file : Change → List ℕ
file c = write (changed c)

abbrev pub files : List Change → List ℕ → List ℕ
files cs after = gather file cs ++ after

abbrev pub prints : List Change → List ℕ → List String → Week
prints cs after lines = record { input = files cs after; lines = lines }

-- the bytes that must be printed
abbrev pub due : Week → List (List ℕ)
due w = map ascii w.lines

unfoldable pub weeks : List Week
weeks =
    -- "input that ends where a file would start, the first too, ends the report"
    prints [] [] ("0 0\n" ∷ [])
    -- "its index from 1, T, M, the sum of six-volumes and the smallest six-volume"; P1: "six-volume 8,388,608"
    ∷ prints (unchanged ∷ []) [] ("1 24 0 201326592 8388608\n" ∷ "24 201326592\n" ∷ [])
    -- P4: the skin is 193 instead of 128 256ths away along one edge, which 4 of the rows have. P2: "T 0, M 1", "0 if there are no rows".
    -- P10 to P12: "A refused block prints its index, "refused", number and place, and is left out of the totals", and the next file follows
    ∷ prints (byte_at 91 193 ∷ byte_at 91 63 ∷ byte_at 91 0 ∷ byte_at 0 7 ∷ sample_at 27 (pos 1) ∷ unchanged ∷ []) []
    ("1 24 1 218365952 8388608\n"
    ∷ "2 0 1 0 0\n"
    ∷ "3 refused 6 91\n"
    ∷ "4 refused 7 0\n"
    ∷ "5 refused 5 27\n"
    ∷ "6 24 0 201326592 8388608\n"
    ∷ "48 419692544\n"
    ∷ [])
    -- "A file refused with 1, 11 or 12 prints its line and ends the report, since the next start is unknown; the last line still follows":
    -- a size of 0, a size of 6, fewer than three bytes, a file that the end of the input cuts off, and a zero byte in a run; what would
    -- follow is not looked at
    ∷ prints (unchanged ∷ []) ((1 ∷ 0 ∷ 6 ∷ []) ++ file unchanged)
    ("1 24 0 201326592 8388608\n" ∷ "2 refused 1 0\n" ∷ "24 201326592\n" ∷ [])
    ∷ prints (unchanged ∷ []) ((5 ∷ 6 ∷ 5 ∷ []) ++ file unchanged)
    ("1 24 0 201326592 8388608\n" ∷ "2 refused 12 0\n" ∷ "24 201326592\n" ∷ [])
    ∷ prints (byte_at 91 0 ∷ []) (0 ∷ 6 ∷ []) ("1 refused 6 91\n" ∷ "2 refused 11 0\n" ∷ "0 0\n" ∷ [])
    ∷ prints [] (take 136 (file unchanged)) ("1 refused 11 0\n" ∷ "0 0\n" ∷ [])
    ∷ prints [] (take 136 (file unchanged) ++ (0 ∷ []) ++ file unchanged) ("1 refused 11 0\n" ∷ "0 0\n" ∷ [])
    ∷ []
