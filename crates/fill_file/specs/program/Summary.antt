-- Document 01, "The bench program": what it prints for one block file, and what it leaves in its tables.
use Rattle.std.specs.Prelude.{ℕ, ◌*◌, List, ◌++◌, ℤ, take, drop, eqb, if◌then◌else◌}
use Rattle.lattice.specs.declared.Sizes.{Sizes}
use Rattle.lattice.specs.Counts.{points}
use Rattle.moving.specs.Block.{block_of}
use Rattle.filling.specs.declared.Filled.{Filled}
use Rattle.filling.specs.Fill.{fill}
use Rattle.yakuemi.specs.Measures.{measure}
use Rattle.blockfile.specs.Format.{read_sizes, read_whole}

-- 12 "bench": "a size of 6 to 64 in the program"
abbrev pub bench_limit : ℕ
bench_limit = 5

-- "Its tables are arrays filled with zero, large enough for 5 by 5 by 5": N of such a block, its cut bytes, and four numbers for
-- each of at most three rows of its 1,200 lattice tetrahedra
abbrev pub bench_points : ℕ
bench_points = 341

abbrev pub bench_cuts : ℕ
bench_cuts = 2387

abbrev pub bench_rows : ℕ
bench_rows = 14400

-- 0 with the four counts, or a refusal's number and place with zeros
pub record Summary : Type 0 where
  pub number : ℕ
  pub place : ℕ
  pub points : ℕ
  pub lattice : ℕ
  pub moved : ℕ
  pub emitted : ℕ

-- "A refusal prints one line, "refused", number, place"
unfoldable pub refusal : ℕ → ℕ → Summary
refusal n at = record { number = n; place = at; points = 0; lattice = 0; moved = 0; emitted = 0 }

-- "Whole output: points N, lattice tetrahedra, M, T"
unfoldable pub counted : Sizes → Filled → Summary
counted s f =
    if eqb f.number 0
    then record {
      number = 0;
      place = 0;
      points = (measure s).points;
      lattice = (measure s).tetrahedra;
      moved = f.moved;
      emitted = f.rows;
    }
    else refusal f.number f.place

-- the answer, the state table and the row table
pub record Outcome : Type 0 where
  pub answer : Summary
  pub state : List ℕ
  pub rows : List ℕ

-- a block that stands in the first entries of the tables is filled; the state table beyond its N entries stays untouched. Document 02, F-3:
-- "Band 0 changes no answer, and the programs use it"
unfoldable pub fill_read : Sizes → List ℤ → List ℕ → List ℕ → List ℕ → Outcome
fill_read s samples cuts state rows =
    let n = points s in
    let f = fill 0 (block_of s (take n samples) (take (7 * n) cuts)) (take n state) rows in
    record { answer = counted s f.answer; state = f.state ++ drop n state; rows = f.rows }

-- "Order: under three bytes 11, 1, 12, 11, filling's"
unfoldable pub summary : List ℕ → List ℤ → List ℕ → List ℕ → List ℕ → Outcome
summary bytes samples cuts state rows =
    let o = read_whole bytes bench_limit samples cuts in
    let filled = fill_read (read_sizes o.answer) o.samples o.cuts state rows in
    if eqb o.answer.number 0 then filled
    else record { answer = refusal o.answer.number 0; state = state; rows = rows }
