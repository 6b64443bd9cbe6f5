-- The lattice tetrahedra of two cubes, side by side along each axis: their corners, read off document 01's turn of the
-- shared face by hand. Assumes nothing.
use Prim.Native.Nat.{ℕ}
use mathlib.Core.Path.{◌≡◌, refl}
use mathlib.Core.List.{List, [], ◌∷◌, map}
use Rattle.basics.specs.Lists.{gather, from}
use Rattle.lattice.specs.declared.Sizes.{Sizes}
use Rattle.lattice.specs.Counts.{cells}
use Rattle.lattice.specs.Point.{linear}
use Rattle.stencil.specs.Tetrahedron.{v0, v1, v2, v3, unit, around, offset, corner, corner_number}
use Rattle.stencil.specs.Tetrahedron.{in_turn, in_cube, in_line, in_layer, in_axis, tetrahedra_of}
use Rattle.stencil.specs.Row.{Row, row, map_row}

unfoldable pub corners_of : Sizes → List (Row ℕ)
corners_of s = map (λ t. map_row (corner_number s t) (row v0 v1 v2 v3)) (tetrahedra_of s)

abbrev pub cubes : ℕ → ℕ → ℕ → Sizes
cubes x y z = record { nx = x; ny = y; nz = z }

-- the shared face's corners around are 1 4 10 7, then 2 8 9 3, then 4 5 7 6; the centres are 12 and 13
pub turns :
    map corners_of (cubes 2 1 1 ∷ cubes 1 2 1 ∷ cubes 1 1 2 ∷ [])
    ≡ (row 1 4 12 13 ∷ row 4 10 12 13 ∷ row 7 10 12 13 ∷ row 1 7 12 13 ∷ [])
    ∷ (row 2 8 12 13 ∷ row 8 9 12 13 ∷ row 3 9 12 13 ∷ row 2 3 12 13 ∷ [])
    ∷ (row 4 5 12 13 ∷ row 5 7 12 13 ∷ row 6 7 12 13 ∷ row 4 6 12 13 ∷ [])
    ∷ []
unfolding
    corners_of gather from cells linear unit around offset corner corner_number
    in_turn in_cube in_line in_layer in_axis tetrahedra_of
turns = refl
