-- Boundaries, sums and smallest values, computed. Assumes nothing. (Files are checked in the order of their names, and
-- of each what is public first: so a wrong definition is refused by what it gives here.)
use Prim.Native.Nat.{ℕ}
use mathlib.Core.Path.{◌≡◌, refl}
use mathlib.Core.List.{List, [], ◌∷◌, map}
use lib.Dec.{eqb}
use lib.IntN.{ℤ, pos, neg_ℤ}
use Rattle.std.specs.Prelude.{if◌then◌else◌}
use Rattle.basics.specs.Lists.{gather, from, count}
use Rattle.lattice.specs.Axis.{xyz}
use Rattle.stencil.specs.Row.{row, Face, face}
use Rattle.geometry.specs.Place.{Place}
use Rattle.geometry.specs.Volume.{cross, dot, triple}
use Rattle.boundary.specs.Sum.{sum, how_many, least_from, smallest}
use Rattle.boundary.specs.Boundary.{half_faces, has_id, belongs, also_in, alone, if_alone, boundary_faces}
use Rattle.boundary.specs.Boundary.{face_volume, runs}

-- the boundary of one row is its four faces
pub one_row : boundary_faces (row 5 6 7 8 ∷ []) ≡ face 6 7 8 ∷ face 5 8 7 ∷ face 5 6 8 ∷ face 5 7 6 ∷ []
unfolding gather from count half_faces has_id belongs also_in alone if_alone boundary_faces
one_row = refl

-- of two rows that share a face, it is the other six
pub two_rows : boundary_faces (row 5 6 7 8 ∷ row 7 6 5 9 ∷ [])
    ≡ face 6 7 8 ∷ face 5 8 7 ∷ face 5 6 8 ∷ face 6 5 9 ∷ face 7 9 5 ∷ face 7 6 9 ∷ []
unfolding gather from count half_faces has_id belongs also_in alone if_alone boundary_faces
two_rows = refl

abbrev pub four_faces : List (Face ℕ)
four_faces = face 1 2 3 ∷ face 0 3 2 ∷ face 0 1 3 ∷ face 0 2 1 ∷ []

-- the origin, and one step along each axis
pub unit : ℕ → Place
unit i = xyz (at 1) (at 2) (at 3)
  where
    at : ℕ → ℤ
    at k = if eqb i k then pos 1 else pos 0

-- outward is the winding that encloses a volume above zero
pub one_volume : sum (face_volume unit) four_faces ≡ pos 1
unfolding unit cross dot triple sum face_volume
one_volume = refl

-- the edge between 0 and 3 is run once each way: by the first side of a face, and by the last side of another
pub one_edge : how_many (runs 0 3) four_faces ∷ how_many (runs 3 0) four_faces ∷ [] ≡ 1 ∷ 1 ∷ []
unfolding how_many runs
one_edge = refl

-- the smallest of none is 0; of some it is the least of them, above zero or below
pub smallests : map (smallest neg_ℤ) ([] ∷ (neg_ℤ (pos 7) ∷ neg_ℤ (pos 5) ∷ neg_ℤ (pos 6) ∷ []) ∷ (pos 7 ∷ pos 8 ∷ []) ∷ [])
    ≡ pos 0 ∷ pos 5 ∷ neg_ℤ (pos 8) ∷ []
unfolding least_from smallest
smallests = refl
