-- What the place call says of a block of one cube: every refusal, before those that come after it, and places. Assumes nothing.
-- (As ABlock, checked before the laws.)
use Prim.Native.Nat.{ℕ}
use mathlib.Core.Path.{◌≡◌, refl}
use mathlib.Core.List.{List, [], ◌∷◌, map}
use lib.ListN.{replicate}
use Rattle.basics.specs.cases.Table.{Entry, ◌:=◌, table_of}
use Rattle.filling.specs.declared.Placed.{Placed}
use Rattle.filling.specs.Located.{locate, unplaced}
use Rattle.filling.proofs.Opened.{definitions}

-- a place asked of a block of one cube, its tables of these lengths and with these entries
pub record Question : Type 0 where
  pub cubes : ℕ
  pub cuts : List ℕ
  pub state : List ℕ
  pub id : ℕ
  pub placed : Placed

abbrev ask : List Entry → List Entry → ℕ → Placed → Question
ask cuts state id p = record { cubes = 1; cuts = table_of 63 cuts; state = table_of 9 state; id = id; placed = p }

abbrev at : ℕ → ℕ → ℕ → Placed
at x y z = record { number = 0; x = x; y = y; z = z }

unfoldable pub questions : List Question
questions =
    record { cubes = 0; cuts = []; state = []; id = 0; placed = unplaced 1 }
    ∷ record { cubes = 1; cuts = replicate 62 9; state = []; id = 0; placed = unplaced 3 }
    ∷ record { cubes = 1; cuts = replicate 63 9; state = replicate 8 0; id = 0; placed = unplaced 4 }
    -- a point at rest; moved to a cut, and to one that does not violate it
    ∷ ask [] [] 7 (at 512 512 512)
    ∷ ask (0 := 193 ∷ []) (1 := 8 ∷ []) 1 (at 386 0 0)
    ∷ ask (0 := 192 ∷ []) (1 := 8 ∷ []) 1 (unplaced 9)
    -- "its edge does not exist": by code 1 from the end of the cube's edge
    ∷ ask (7 := 63 ∷ []) (1 := 1 ∷ []) 1 (unplaced 9)
    -- F-8: "Code 15 is believable", and its point at rest, though its direction would be that of 8; 16 is not, nor is 255
    ∷ ask (0 := 193 ∷ []) (1 := 15 ∷ []) 1 (at 512 0 0)
    ∷ ask [] (1 := 15 ∷ []) 1 (at 512 0 0)
    ∷ ask (0 := 193 ∷ []) (1 := 16 ∷ []) 1 (unplaced 9)
    ∷ ask (0 := 193 ∷ []) (1 := 255 ∷ []) 1 (unplaced 9)
    -- a cut; one that is not there; those of an end with a byte that is not 0, F-8: "A cut with an end coded 15 is refused by 8"; past the
    -- last id
    ∷ ask (0 := 193 ∷ []) [] 9 (at 386 0 0)
    ∷ ask [] [] 9 (unplaced 8)
    ∷ ask (0 := 193 ∷ []) (0 := 15 ∷ []) 9 (unplaced 8)
    ∷ ask (0 := 193 ∷ []) (1 := 15 ∷ []) 9 (unplaced 8)
    ∷ ask (0 := 193 ∷ []) (1 := 16 ∷ []) 9 (unplaced 8)
    ∷ ask [] [] 72 (unplaced 8)
    ∷ []

abbrev asked : Question → Placed
asked q = locate (record { nx = q.cubes; ny = q.cubes; nz = q.cubes }) q.cuts q.state q.id

pub places_so : map asked questions ≡ map (λ q. q.placed) questions
unfolding definitions questions
places_so = refl
