-- A question for the place call in millimetres (document 02, F-1), after the given case was filled and with one entry of the state table set.
-- Its unit, and what must come out of it, are bit patterns of floats: so a sign of a zero counts.
use Rattle.std.specs.Prelude.{ℕ, []}
use Rattle.std.specs.Float.{binary64}
use Rattle.std.specs.Float.Ieee.{of_bits}
use Rattle.basics.specs.cases.Table.{Entry, entered}
use Rattle.lattice.specs.Counts.{points}
use Rattle.metric.specs.Millimetres.{locate_mm}
use Rattle.metric.specs.cases.Bits.{Bits, bits, in_bits}
use Rattle.casebook.specs.cases.Lent.{codes, state_table}
use Rattle.casebook.specs.cases.Given.{given_sizes, given_cuts}

pub record Question : Type 0 where
  pub entry : Entry
  pub id : ℕ
  pub unit : ℕ
  pub answer : Bits

abbrev pub ask : Entry → ℕ → ℕ → ℕ → ℕ → ℕ → ℕ → Question
ask e id unit n x y z = record { entry = e; id = id; unit = unit; answer = bits n x y z }

-- by the definitions: filling moves no point there (the first of `cases`)
unfoldable pub answered : Question → Bits
answered q =
    let state = entered q.entry (state_table (points given_sizes) (codes [])) in
    in_bits (locate_mm given_sizes given_cuts state q.id (of_bits binary64 q.unit))
