-- A table written down by its entries that are not 0: for examples.
use Rattle.std.specs.Prelude.{ℕ, List, [], ◌∷◌, replicate, set}

infix 70 ◌:=◌
pub data Entry : Type 0 where
  ◌:=◌ : ℕ → ℕ → Entry

abbrev pub entered : Entry → List ℕ → List ℕ
entered (i := v) table = set table i v

-- a table of n numbers, 0 but for these entries
unfoldable pub table_of : ℕ → List Entry → List ℕ
table_of n [] = replicate n 0
table_of n (e ∷ es) = entered e (table_of n es)
