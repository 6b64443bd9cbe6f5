-- How much a filled block can have.
use Rattle.std.specs.Prelude.{ℕ}

-- no row's six-volume is further from 0
abbrev pub volume_most : ℕ
volume_most = 4294967296

-- up to 5 by 5 by 5 cubes: at most three rows for each of 1,200 lattice tetrahedra
abbrev pub rows_most : ℕ
rows_most = 3600
