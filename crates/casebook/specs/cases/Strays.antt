-- Document 02, F-5: "where eight bytes in a row must all be zero .. No answer and no reported place changes." Bytes that are not zero in
-- a cube of air, and beside the rubber of the given case, the lowest refused with 7 at its own offset. The theorem is `strays_come_out`
-- in proofs/Cases.antt. A block of air of 3 by 3 by 3 cubes is too much to compute here: docs/src/compare/tests/stray.rs.
use Rattle.std.specs.Prelude.{ℕ, ◌+◌, ◌*◌, ◌-◌, List, [], ◌∷◌, ◌++◌, map, pos, neg_ℤ, replicate}
use Rattle.basics.specs.Lists.{from, below, gather}
use Rattle.basics.specs.cases.Table.{Entry, ◌:=◌, table_of}
use Rattle.lattice.specs.declared.Sizes.{Sizes}
use Rattle.lattice.specs.Counts.{points}
use Rattle.moving.specs.Block.{Block, block_of}
use Rattle.casebook.specs.cases.Lent.{as_lent}
use Rattle.casebook.specs.cases.Given.{byte_at, changed}
use Rattle.casebook.specs.cases.Cases.{Case, banded, refused}

abbrev cube : Sizes
cube = record { nx = 1; ny = 1; nz = 1 }

-- every sample -1, and no cut but these bytes
unfoldable pub air : List Entry → Block
air es = block_of cube (replicate (points cube) (neg_ℤ (pos 1))) (table_of (7 * points cube) es)

abbrev stray : ℕ → Block → Case
stray o b = banded 0 b 4 (refused 7 o) as_lent []

-- two bytes
abbrev two : ℕ → ℕ → ℕ → ℕ → Case
two o s p t = stray o (air ((o := s) ∷ (p := t) ∷ []))

-- each pair of eight bytes in a row from o on: two that make 256, and two that are the same, which neither a sum that wraps nor an
-- exclusive or may hide
abbrev pairs : ℕ → List Case
pairs o =
    gather (λ i. gather (λ n. two (o + i) 85 (o + i + n) 171 ∷ two (o + i) 85 (o + i + n) 85 ∷ []) (from 1 (7 - i))) (below 7)

unfoldable pub strays : List Case
strays =
    -- each of the 63 bytes of a cube of air
    map (λ o. stray o (air ((o := 255) ∷ []))) (below 63)
    -- the first eight bytes, eight over the end of a line, and the last
    ++ pairs 0 ++ pairs 10 ++ pairs 55
    -- beside the rubber of the given case: before its first cut, which is at 30, after one, and at the table's end
    ++ map (λ o. stray o (changed (byte_at o 1))) (below 30 ++ from 31 8 ++ from 237 8)
