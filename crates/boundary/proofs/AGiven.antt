-- The boundary of document 01's given case, computed: a ball of 24 rows about the middle point, each with one face on
-- the boundary. Assumes nothing.
use Prim.Native.Nat.{ℕ, ◌*◌}
use mathlib.Core.Path.{◌≡◌, refl}
use mathlib.Core.List.{List, [], ◌∷◌, map}
use lib.IntN.{pos, neg_ℤ}
use lib.ListN.{length, replicate, set}
use Rattle.basics.specs.cases.Table.{◌:=◌, table_of}
use Rattle.moving.specs.Block.{Block, block_of}
use Rattle.stencil.specs.Row.{Row}
use Rattle.geometry.specs.Place.{Place, place_of}
use Rattle.filling.specs.Mesh.{row_volume}
use Rattle.filling.specs.Demand.{rows_read}
use Rattle.filling.specs.Fill.{Outcome, fill}
use Rattle.filling.proofs.Opened.{definitions}
use Rattle.boundary.specs.Sum.{sum, least_from, smallest}
use Rattle.boundary.specs.Boundary.{half_faces, has_id, belongs, also_in, alone, if_alone, boundary_faces, face_volume}

-- "2 by 2 by 2", "sample 13 is 5, all others -5", and the fourteen cuts about it at 128
pub block : Block
block =
    block_of (record { nx = 2; ny = 2; nz = 2 }) (set (replicate 35 (neg_ℤ (pos 5))) 13 (pos 5))
    (table_of 245 (map (λ o. o := 128) (30 ∷ 71 ∷ 84 ∷ 91 ∷ 92 ∷ 93 ∷ 94 ∷ 95 ∷ 96 ∷ 97 ∷ 192 ∷ 200 ∷ 208 ∷ 216 ∷ [])))

pub filled : Outcome
filled = fill 0 block (replicate 35 99) (replicate 96 99)

pub rows : List (Row ℕ)
rows = rows_read filled.rows filled.answer.rows

pub place : ℕ → Place
place = place_of block.sizes block.cuts filled.state

-- the sum over the rows, the sum over the boundary's faces, and the smallest: P1's "six-volume 8,388,608"
pub volumes :
    sum (row_volume place) rows ∷ sum (face_volume place) (boundary_faces rows) ∷ smallest (row_volume place) rows ∷ []
    ≡ pos (24 * 8388608) ∷ pos (24 * 8388608) ∷ pos 8388608 ∷ []
unfolding
    definitions rows_read half_faces has_id belongs also_in alone if_alone boundary_faces face_volume sum least_from smallest
    block filled rows place
volumes = refl

pub faces : length (boundary_faces rows) ≡ 24
unfolding definitions rows_read half_faces has_id belongs also_in alone if_alone boundary_faces block filled rows
faces = refl
