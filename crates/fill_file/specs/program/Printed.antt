-- Document 01, "The bench program": what it prints, in bytes.
--     printed    for an answer
--     output     for all bytes of its input
use Rattle.std.specs.Prelude.{ℕ, List, [], ◌∷◌, ◌++◌, pos, replicate, eqb, if◌then◌else◌}
use Rattle.text.specs.Text.{ascii, decimal, line}
use Rattle.fill_file.specs.program.Summary.{Summary, bench_points, bench_cuts, bench_rows, summary}

-- "Whole output: points N, lattice tetrahedra, M, T", a line each
unfoldable pub count_lines : Summary → List ℕ
count_lines a =
    line (ascii "points" ∷ decimal a.points ∷ [])
    ++ (line (ascii "lattice" ∷ decimal a.lattice ∷ [])
    ++ (line (ascii "moved" ∷ decimal a.moved ∷ []) ++ line (ascii "emitted" ∷ decimal a.emitted ∷ [])))

-- "A refusal prints one line, "refused", number, place, with one space between, as "refused 6 91""
unfoldable pub printed : Summary → List ℕ
printed a =
    if eqb a.number 0 then count_lines a
    else line (ascii "refused" ∷ decimal a.number ∷ decimal a.place ∷ [])

-- "Its tables are arrays filled with zero, large enough for 5 by 5 by 5"
unfoldable pub output : List ℕ → List ℕ
output bytes =
    printed
    (summary bytes (replicate bench_points (pos 0)) (replicate bench_cuts 0) (replicate bench_points 0) (replicate bench_rows 0)).answer
