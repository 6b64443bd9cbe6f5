-- The fourteen edges of the middle point of a block of 2 by 2 by 2 cubes, in code order: they have the bytes that document 01's given case
-- lists for it, "(30,1) (71,1) (84,1) (91,7) (192,1) (200,1) (208,1) (216,1)". This holds the seven directions, their order and the codes
-- against document 01. Assumes nothing.
use Prim.Native.Nat.{ℕ}
use mathlib.Core.Path.{◌≡◌, refl}
use mathlib.Core.List.{List, [], ◌∷◌, ◌++◌}
use Rattle.std.proofs.Common.{None, Option, Some}
use Rattle.basics.specs.Lists.{gather, from}
use Rattle.lattice.specs.declared.Sizes.{Sizes}
use Rattle.lattice.specs.Counts.{cells}
use Rattle.lattice.specs.Point.{linear, cell, kind_of}
use Rattle.lattice.specs.Direction.{directions, direction, long, is_start, direction_of, step}
use Rattle.lattice.specs.Edge.{stays_in, far_kind, far_index, near, neighbour, edge_byte}

-- the byte of the edge that leads from p by a code, or none
unfoldable pub bytes_to : ℕ → ℕ → Option ℕ → List ℕ
bytes_to p c None = []
bytes_to p c (Some q) = edge_byte p c q ∷ []

unfoldable pub bytes_of : Sizes → ℕ → List ℕ
bytes_of s p = gather (λ c. bytes_to p c (neighbour s p c)) (from 1 14)

pub directions_fit :
    bytes_of (record { nx = 2; ny = 2; nz = 2 }) 13 ≡ from 91 7 ++ (84 ∷ 71 ∷ 30 ∷ 192 ∷ 200 ∷ 208 ∷ 216 ∷ [])
unfolding
    bytes_of bytes_to gather from near edge_byte stays_in far_kind far_index directions direction long is_start direction_of step
    kind_of cells cell linear
directions_fit = refl
