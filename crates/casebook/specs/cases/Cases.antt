-- Document 01, "Cases from the given case (P: to prove)": P1 to P12 and the two row tables, as one list of cases. A case is a band, a block,
-- the length of the lent row table, and what must come out of filling. The theorem is `cases_come_out` in proofs/Cases.antt.
use Rattle.std.specs.Prelude.{ℕ, List, [], ◌∷◌, ℤ, pos}
use Rattle.basics.specs.cases.Table.{Entry, ◌:=◌}
use Rattle.moving.specs.Block.{Block}
use Rattle.stencil.specs.Row.{Row, row}
use Rattle.filling.specs.declared.Filled.{Filled}
use Rattle.filling.specs.declared.Placed.{Placed}
use Rattle.casebook.specs.cases.Lent.{State, as_lent, codes}
use Rattle.casebook.specs.cases.Given.{Change, unchanged, byte_at, sample_at, changed}

-- what a case says besides the answer and the tables: how many points and lattice tetrahedra there are, the first row as written with its
-- six-volume, or what the place call answers for an id after filling, or after filling and with one entry of the state table set
pub data Claim : Type 0 where
  counts : (points lattice : ℕ) → Claim
  first_row_is : Row ℕ → ℤ → Claim
  place_is : ℕ → Placed → Claim
  place_with : Entry → ℕ → Placed → Claim

pub record Case : Type 0 where
  pub band : ℕ
  pub block : Block
  pub numbers : ℕ
  pub answer : Filled
  pub state : State
  pub claims : List Claim

-- any block with a band; and the given block with a change, with band 0
abbrev pub banded : ℕ → Block → ℕ → Filled → State → List Claim → Case
banded band b n a s cs = record { band = band; block = b; numbers = n; answer = a; state = s; claims = cs }

abbrev pub case : Change → ℕ → Filled → State → List Claim → Case
case c = banded 0 (changed c)

-- the answers: filled with T and M; 10 with T and M; another refusal with its place
abbrev pub filled : ℕ → ℕ → Filled
filled t m = record { number = 0; rows = t; moved = m; place = 0 }

abbrev pub too_short : ℕ → ℕ → Filled
too_short t m = record { number = 10; rows = t; moved = m; place = 0 }

abbrev pub refused : ℕ → ℕ → Filled
refused n p = record { number = n; rows = 0; moved = 0; place = p }

abbrev pub at : ℕ → ℕ → ℕ → Placed
at x y z = record { number = 0; x = x; y = y; z = z }

-- "a refusal's place is (0,0,0)"
abbrev pub nowhere : ℕ → Placed
nowhere n = record { number = n; x = 0; y = 0; z = 0 }

unfoldable pub cases : List Case
cases =
    -- the given case: "points 35, lattice 48, moved 0, emitted 24"; and P1 "First row: 13, 65, 235, 227; six-volume 8,388,608"
    case unchanged 100 (filled 24 0) (codes []) (counts 35 48 ∷ first_row_is (row 13 65 235 227) (pos 8388608) ∷ [])
    -- P2 "Byte 91 at 63: point 13 moves to (638,512,512), code 1; T 0, M 1"
    ∷ case (byte_at 91 63) 100 (filled 0 1) (codes (13 := 1 ∷ [])) (place_is 13 (at 638 512 512) ∷ [])
    -- P3 "At 64: M 0"
    ∷ case (byte_at 91 64) 100 (filled 24 0) (codes []) []
    -- P4 "At 193: point 14 moves to (898,512,512), code 8; T 24"
    ∷ case (byte_at 91 193) 100 (filled 24 1) (codes (14 := 8 ∷ [])) (place_is 14 (at 898 512 512) ∷ [])
    -- P5 "At 192: M 0"
    ∷ case (byte_at 91 192) 100 (filled 24 0) (codes []) []
    -- P6 "Byte 94 at 105: point 13 to (617,617,617), code 4"
    ∷ case (byte_at 94 105) 100 (filled 0 1) (codes (13 := 4 ∷ [])) (place_is 13 (at 617 617 617) ∷ [])
    -- P7 "At 106: M 0"
    ∷ case (byte_at 94 106) 100 (filled 24 0) (codes []) []
    -- P8 "Byte 94 at 151: point 34 to (663,663,663), code 11"
    ∷ case (byte_at 94 151) 100 (filled 24 1) (codes (34 := 11 ∷ [])) (place_is 34 (at 663 663 663) ∷ [])
    -- P9 "At 150: M 0"
    ∷ case (byte_at 94 150) 100 (filled 24 0) (codes []) []
    -- P10 "Byte 91 zero: 6 at 91"
    ∷ case (byte_at 91 0) 100 (refused 6 91) as_lent []
    -- P11 "Byte 0 at 7: 7 at 0"
    ∷ case (byte_at 0 7) 100 (refused 7 0) as_lent []
    -- P12 "Sample 27 at 1: 5 at 27"
    ∷ case (sample_at 27 (pos 1)) 100 (refused 5 27) as_lent []
    -- "Row table of 95 numbers: 10 with T 24; of 96: filled"
    ∷ case unchanged 95 (too_short 24 0) (codes []) []
    ∷ case unchanged 96 (filled 24 0) (codes []) []
    ∷ []

-- State bytes that no filling writes, above 15, after the given case with one byte changed (as in P4, and its like along y): "9 begins above
-- 15", though the directions of 16 and 17 would be those of 9 and 10, whose cuts violate; "8: .. or has an end with a non-zero state byte",
-- either end. The theorem is `strange_come_out`.
unfoldable pub strange : List Case
strange =
    case (byte_at 91 193) 100 (filled 24 1) (codes (14 := 8 ∷ []))
    (place_is 14 (at 898 512 512)
    ∷ place_with (14 := 16) 14 (nowhere 9)
    ∷ place_with (14 := 255) 14 (nowhere 9)
    ∷ place_is 127 (at 512 768 512)
    ∷ place_with (13 := 16) 127 (nowhere 8)
    ∷ place_with (16 := 16) 127 (nowhere 8)
    ∷ [])
    ∷ case (byte_at 92 193) 100 (filled 24 1) (codes (16 := 9 ∷ []))
    (place_is 16 (at 512 898 512) ∷ place_with (16 := 16) 16 (nowhere 9) ∷ [])
    ∷ case (byte_at 93 193) 100 (filled 24 1) (codes (22 := 10 ∷ []))
    (place_is 22 (at 512 512 898) ∷ place_with (22 := 17) 22 (nowhere 9) ∷ [])
    ∷ []
