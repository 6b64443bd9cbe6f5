-- Document 02, F-7, "A volume report for the week": what the program prints, for all bytes of its input.
--     entry_of     the numbers of the file that starts the bytes
--     line_of      its line
--     report      all lines, for all bytes
use Rattle.std.specs.Prelude.{ℕ, zero, suc, ◌+◌, ◌*◌, Bool, not, ◌||◌, List, [], ◌∷◌, map, pos, nat_abs, take, drop, replicate, eqb, if◌then◌else◌}
use Rattle.lattice.specs.declared.Sizes.{Sizes}
use Rattle.lattice.specs.Counts.{points}
use Rattle.geometry.specs.Place.{place_of}
use Rattle.filling.specs.Mesh.{row_volume}
use Rattle.filling.specs.Demand.{rows_read}
use Rattle.boundary.specs.Sum.{sum, smallest}
use Rattle.blockfile.specs.Format as file
use Rattle.fill_file.specs.program.Summary as bench
use Rattle.fill_file.specs.program.Summary.{Summary}
use Rattle.text.specs.Text.{ascii, decimal, line}
use Rattle.volume_report.specs.declared.Tally.{Tally}

-- "the coarse block of each mount within the bench program's sizes": the file that starts the bytes is read, "What follows a whole file is
-- the next file", and its block is filled, in the bench program's tables, "arrays filled with zero, large enough for 5 by 5 by 5"
unfoldable pub opened : List ℕ → file.Outcome
opened bytes = file.read bytes bench.bench_limit (replicate bench.bench_points (pos 0)) (replicate bench.bench_cuts 0)

unfoldable pub filled : file.Outcome → bench.Outcome
filled o =
    bench.fill_read (file.read_sizes o.answer) o.samples o.cuts (replicate bench.bench_points 0) (replicate bench.bench_rows 0)

-- what a file's line says: 0 with T, M, the sum of the six-volumes and the smallest, or a refusal's number and place with zeros; and where in
-- the bytes the file ends, 0 where nobody knows
pub record Entry : Type 0 where
  pub number : ℕ
  pub place : ℕ
  pub tetrahedra : ℕ
  pub moved : ℕ
  pub sum : ℕ
  pub smallest : ℕ
  pub end : ℕ

-- "T, M, the sum of six-volumes and the smallest six-volume, 0 if there are no rows". Every six-volume is above 0 (demand 3), so its size is
-- written
unfoldable pub measured : Sizes → ℕ → Summary → List ℕ → List ℕ → List ℕ → Entry
measured s end f cuts state rows =
    let volume = row_volume (place_of s (take (7 * points s) cuts) (take (points s) state)) in
    let mesh = rows_read rows f.emitted in
    record {
      number = 0;
      place = 0;
      tetrahedra = f.emitted;
      moved = f.moved;
      sum = nat_abs (sum volume mesh);
      smallest = nat_abs (smallest volume mesh);
      end = end;
    }

unfoldable pub refusal : ℕ → ℕ → ℕ → Entry
refusal n at end = record { number = n; place = at; tetrahedra = 0; moved = 0; sum = 0; smallest = 0; end = end }

-- of a file that was read: where it ends is known unless it is refused itself, "since the next start is unknown"
unfoldable pub entry_from : file.Outcome → Entry
entry_from o =
    let f = filled o in
    if not (eqb o.answer.number 0) then refusal o.answer.number 0 0
    else if not (eqb f.answer.number 0) then refusal f.answer.number f.answer.place o.answer.end
    else measured (file.read_sizes o.answer) o.answer.end f.answer o.cuts f.state f.rows

abbrev pub entry_of : List ℕ → Entry
entry_of bytes = entry_from (opened bytes)

-- "its index from 1, T, M, the sum of six-volumes and the smallest six-volume"; "A refused block prints its index,
-- "refused", number and place"
unfoldable pub line_of : ℕ → Entry → List ℕ
line_of i e =
    if eqb e.number 0
    then line (map decimal (i ∷ e.tetrahedra ∷ e.moved ∷ e.sum ∷ e.smallest ∷ []))
    else line (decimal i ∷ ascii "refused" ∷ decimal e.number ∷ decimal e.place ∷ [])

-- how many files there were, and the totals: a refused block "is left out of the totals"
unfoldable pub counted : Tally → Entry → Tally
counted t e =
    if eqb e.number 0
    then record { files = t.files + 1; tetrahedra = t.tetrahedra + e.tetrahedra; sum = t.sum + e.sum }
    else record { files = t.files + 1; tetrahedra = t.tetrahedra; sum = t.sum }

-- "the last line adds up T and the sums"
unfoldable pub last_line : Tally → List ℕ
last_line t = line (decimal t.tetrahedra ∷ decimal t.sum ∷ [])

-- "A file refused with 1, 11 or 12 prints its line and ends the report"
unfoldable pub is_last : ℕ → Bool
is_last n = eqb n 1 || (eqb n 11 || eqb n 12)

-- "After 1,000,000 files the report ends with its last line"
abbrev pub most_files : ℕ
most_files = 1000000

-- the lines from a file on, where so many more may come: "input that ends where a file would start, the first too, ends the report"
unfoldable pub report_from : ℕ → Tally → List ℕ → List (List ℕ)
report_from zero t bytes = last_line t ∷ []
report_from (suc k) t [] = last_line t ∷ []
report_from (suc k) t (b ∷ bs) =
    let e = entry_of (b ∷ bs) in
    let next = counted t e in
    let rest = report_from k next (drop e.end (b ∷ bs)) in
    line_of next.files e ∷ (if is_last e.number then last_line next ∷ [] else rest)

unfoldable pub begun : Tally
begun = record { files = 0; tetrahedra = 0; sum = 0 }

unfoldable pub report : List ℕ → List (List ℕ)
report bytes = report_from most_files begun bytes
