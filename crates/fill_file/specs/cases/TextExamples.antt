-- Document 01's given case as a file, changes of it, and a file for each of the reader's refusals, with the text that the program prints.
use Rattle.std.specs.Prelude.{ℕ, List, [], ◌∷◌, ◌++◌, pos}
use Prim.Native.String.{String}
use Rattle.casebook.specs.cases.Given.{unchanged, byte_at, sample_at, changed}
use Rattle.blockfile.specs.inner.Write.{write}
use Rattle.text.specs.Text.{ascii}
use Rattle.fill_file.specs.program.Printed.{output}

pub data TextExample : Type 0 where
  writes : List ℕ → String → TextExample

unfoldable pub text_examples : List TextExample
text_examples =
    -- "points N, lattice tetrahedra, M, T"
    writes (write (changed unchanged)) "points 35\nlattice 48\nmoved 0\nemitted 24\n"
    -- P2 and P4: a point moves
    ∷ writes (write (changed (byte_at 91 63))) "points 35\nlattice 48\nmoved 1\nemitted 0\n"
    ∷ writes (write (changed (byte_at 91 193))) "points 35\nlattice 48\nmoved 1\nemitted 24\n"
    -- P10 to P12: filling's refusals, with their places: "as "refused 6 91""
    ∷ writes (write (changed (byte_at 91 0))) "refused 6 91\n"
    ∷ writes (write (changed (byte_at 0 7))) "refused 7 0\n"
    ∷ writes (write (changed (sample_at 27 (pos 1)))) "refused 5 27\n"
    -- the reader's: "fewer than three bytes", "too long", a size outside 1 to 64, "a size of 6 to 64 in the program"
    ∷ writes (0 ∷ 0 ∷ []) "refused 11 0\n"
    ∷ writes (write (changed unchanged) ++ (0 ∷ [])) "refused 11 0\n"
    ∷ writes (0 ∷ 6 ∷ 1 ∷ []) "refused 1 0\n"
    ∷ writes (6 ∷ 1 ∷ 1 ∷ []) "refused 12 0\n"
    ∷ []

abbrev pub comes : TextExample → List ℕ
comes (writes bytes text) = output bytes

abbrev pub due : TextExample → List ℕ
due (writes bytes text) = ascii text
