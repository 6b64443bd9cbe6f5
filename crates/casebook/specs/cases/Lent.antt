-- What the lent tables of a call hold: numbers that filling never writes in these cases.
use Rattle.std.specs.Prelude.{ℕ, List, map, replicate}
use Rattle.basics.specs.Lists.{below}
use Rattle.basics.specs.cases.Table.{Entry, ◌:=◌, table_of}

abbrev pub lent_state : ℕ → List ℕ
lent_state n = replicate n 99

abbrev pub lent_rows : ℕ → List ℕ
lent_rows n = replicate n 999999

-- the state table after a call: as it was lent, or filled with these codes
pub data State : Type 0 where
  as_lent : State
  codes : List Entry → State

-- F-8: every point lies on the skin unmoved
abbrev pub all_marked : ℕ → List Entry
all_marked n = map (λ p. p := 15) (below n)

abbrev pub state_table : ℕ → State → List ℕ
state_table n as_lent = lent_state n
state_table n (codes es) = table_of n es
