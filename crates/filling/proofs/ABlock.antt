-- What filling says of blocks of one cube and of eight: every refusal, before those that come after it, and what stays in the lent
-- tables. Assumes nothing. (Files are checked in the order of their names: this one first, so that a wrong rule is refused by what it gives.)
use Prim.Native.Nat.{ℕ}
use mathlib.Core.Path.{◌≡◌, refl}
use mathlib.Core.List.{List, [], ◌∷◌, map}
use lib.IntN.{ℤ, pos, neg_ℤ}
use lib.ListN.{replicate, set}
use Rattle.basics.specs.Lists.{below}
use Rattle.basics.specs.cases.Table.{Entry, ◌:=◌, table_of}
use Rattle.lattice.specs.declared.Sizes.{Sizes}
use Rattle.moving.specs.Block.{Block, block_of}
use Rattle.filling.specs.declared.Filled.{Filled}
use Rattle.filling.specs.Fill.{Outcome, fill}
use Rattle.filling.proofs.Opened.{definitions}

abbrev cubes : ℕ → Sizes
cubes n = record { nx = n; ny = n; nz = n }

-- n samples, the one at p above zero and the others below
abbrev plus : ℕ → ℕ → List ℤ
plus n p = set (replicate n (neg_ℤ (pos 5))) p (pos 5)

-- the middle point of eight cubes, number 13, and a sample of -3 beside it, at point 14
abbrev thin_air : List ℤ
thin_air = set (plus 35 13) 14 (neg_ℤ (pos 3))

-- a call of filling: the band, the block, the lengths of the lent tables, and what comes out
pub record Call : Type 0 where
  pub band : ℕ
  pub block : Block
  pub state : ℕ
  pub rows : ℕ
  pub outcome : Outcome

abbrev lent : ℕ → List ℕ
lent n = replicate n 99

abbrev answer : ℕ → ℕ → ℕ → ℕ → Filled
answer n t m p = record { number = n; rows = t; moved = m; place = p }

-- a call that leaves both tables as lent, and one that fills the state table alone
abbrev refuses : ℕ → Block → ℕ → ℕ → ℕ → Call
refuses band b n number at =
    record {
      band = band;
      block = b;
      state = n;
      rows = 3;
      outcome = record { answer = answer number 0 0 at; state = lent n; rows = lent 3 };
    }

abbrev fills : ℕ → Block → ℕ → ℕ → Filled → List Entry → Call
fills band b n rows a codes =
    record {
      band = band;
      block = b;
      state = n;
      rows = rows;
      outcome = record { answer = a; state = table_of n codes; rows = lent rows };
    }

-- the cuts of the eight cubes about their middle point 13, with one byte of them at a value
abbrev middle : Entry → List ℕ
middle e =
    table_of 245 (e ∷ map (λ o. o := 128) (30 ∷ 71 ∷ 84 ∷ 91 ∷ 92 ∷ 93 ∷ 94 ∷ 95 ∷ 96 ∷ 97 ∷ 192 ∷ 200 ∷ 208 ∷ 216 ∷ []))

-- the tests before that of the cut bytes, on the least blocks
unfoldable pub early : List Call
early =
    -- F-3: "14 "band", the band is above 32767, directly after 1"
    refuses 32768 (block_of (cubes 0) [] []) 0 1 0
    ∷ refuses 32768 (block_of (cubes 1) [] []) 0 14 0
    ∷ refuses 32767 (block_of (cubes 1) (replicate 8 (pos 5)) []) 0 2 0
    ∷ refuses 0 (block_of (cubes 1) (plus 9 3) (replicate 62 9)) 0 3 0
    ∷ refuses 0 (block_of (cubes 1) (plus 9 3) (replicate 63 9)) 8 4 0
    -- a rim point above zero, before any gap or stray byte; F-9: "5 only for in-band samples go on", here to a stray byte
    ∷ refuses 0 (block_of (cubes 1) (plus 9 3) (replicate 63 9)) 9 5 3
    ∷ refuses 4 (block_of (cubes 1) (plus 9 3) (replicate 63 9)) 9 5 3
    ∷ refuses 5 (block_of (cubes 1) (plus 9 3) (replicate 63 9)) 9 7 0
    -- "A 5 whose lowest point is in the band now names the lowest one outside it"
    ∷ refuses 2 (block_of (cubes 1) (set (plus 9 3) 1 (pos 3)) (replicate 63 9)) 9 5 1
    ∷ refuses 3 (block_of (cubes 1) (set (plus 9 3) 1 (pos 3)) (replicate 63 9)) 9 5 3
    ∷ []

unfoldable pub calls : List Call
calls =
    -- the lowest byte at fault
    refuses 0 (block_of (cubes 2) (plus 35 13) (middle (71 := 0))) 35 6 71
    ∷ refuses 0 (block_of (cubes 1) (replicate 9 (neg_ℤ (pos 5))) (table_of 63 (40 := 9 ∷ []))) 9 7 40
    ∷ refuses 4 (block_of (cubes 2) (plus 35 13) (middle (0 := 9))) 35 7 0
    -- F-9: "A zero byte on an edge with an in-band end is no longer a 6. A non-zero byte there is now a 7"
    ∷ refuses 2 (block_of (cubes 2) thin_air (middle (91 := 0))) 35 6 91
    ∷ fills 3 (block_of (cubes 2) thin_air (middle (91 := 0))) 35 3 (answer 10 24 0 0) (14 := 15 ∷ [])
    ∷ refuses 3 (block_of (cubes 2) thin_air (middle (91 := 63))) 35 7 91
    ∷ refuses 5 (block_of (cubes 2) (plus 35 13) (middle (71 := 0))) 35 7 30
    -- no row, and room for none
    ∷ fills 0 (block_of (cubes 1) (replicate 9 (neg_ℤ (pos 5))) (replicate 63 0)) 9 0 (answer 0 0 0 0) []
    -- 24 rows, and no room for the last: "the state table is filled, the row table is untouched"
    ∷ fills 0 (block_of (cubes 2) (plus 35 13) (middle (91 := 193))) 35 95 (answer 10 24 1 0) (14 := 8 ∷ [])
    -- F-3: the middle point's sample, 5, is above the band 4 and in the band 5: no row is left
    ∷ fills 4 (block_of (cubes 2) (plus 35 13) (middle (91 := 128))) 35 95 (answer 10 24 0 0) []
    ∷ fills 5 (block_of (cubes 2) (plus 35 13) (replicate 245 0)) 35 95 (answer 0 0 0 0) (map (λ p. p := 15) (below 35))
    -- outside the band the cut towards point 14 moves the middle point
    ∷ fills 2 (block_of (cubes 2) thin_air (middle (91 := 63))) 35 3 (answer 0 0 1 0) (13 := 1 ∷ [])
    -- F-8: a point of the rim with label zero from the start has the mark, one that moves its code, and "M now counts codes 1 to 14"
    ∷ fills 0 (block_of (cubes 2) (set (plus 35 13) 0 (pos 0)) (middle (91 := 193))) 35 95 (answer 10 24 1 0) (0 := 15 ∷ 14 := 8 ∷ [])
    ∷ []

abbrev called : Call → Outcome
called c = fill c.band c.block (lent c.state) (lent c.rows)

pub refuses_so : map called early ≡ map (λ c. c.outcome) early
unfolding definitions early
refuses_so = refl

pub fills_so : map called calls ≡ map (λ c. c.outcome) calls
unfolding definitions calls
fills_so = refl
