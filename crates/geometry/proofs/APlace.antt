-- The places of P2, P4, P6 and P8 of document 01, where points of a block of 2 by 2 by 2 cubes move to; that of a point with F-8's mark, which
-- does not; and which way round a positive six-volume is. Assumes nothing. (Files are checked in the order of their names: this one first,
-- so that a wrong rule is refused by what it gives.)
use Prim.Native.Nat.{ℕ}
use mathlib.Core.Path.{◌≡◌, refl}
use mathlib.Core.List.{[], ◌∷◌}
use lib.IntN.{ℤ, pos}
use Rattle.basics.specs.cases.Table.{Entry, ◌:=◌, table_of}
use Rattle.lattice.specs.Axis.{Axis, along_x, along_y, along_z, xyz}
use Rattle.lattice.specs.Counts.{cells, points}
use Rattle.lattice.specs.Point.{linear, cell, kind_of}
use Rattle.lattice.specs.Direction.{directions, direction, long, is_start, direction_of, step}
use Rattle.lattice.specs.Edge.{stays_in, far_kind, far_index, near}
use Rattle.moving.specs.State.{is_move}
use Rattle.geometry.specs.Place.{Place, lattice_place, cut_place, moved_place, point_place, place_of}
use Rattle.geometry.specs.Volume.{cross, dot, triple, six_volume}

pub data Triple : Type 0 where
  at : ℤ → ℤ → ℤ → Triple

abbrev pub coordinates : Place → Triple
coordinates p = at (p along_x) (p along_y) (p along_z)

-- the place of a point whose code is the one entry of the state table, with one byte in the cut table
unfoldable pub moved_to : Entry → Entry → ℕ → Triple
moved_to byte code p = coordinates (place_of (record { nx = 2; ny = 2; nz = 2 }) (table_of 245 (byte ∷ [])) (table_of 35 (code ∷ [])) p)

pub places :
    moved_to (91 := 63) (13 := 1) 13
    ∷ moved_to (91 := 193) (14 := 8) 14
    ∷ moved_to (94 := 105) (13 := 4) 13
    ∷ moved_to (94 := 151) (34 := 11) 34
    ∷ moved_to (91 := 193) (14 := 15) 14
    ∷ []
    ≡ at (pos 638) (pos 512) (pos 512)
    ∷ at (pos 898) (pos 512) (pos 512)
    ∷ at (pos 617) (pos 617) (pos 617)
    ∷ at (pos 663) (pos 663) (pos 663)
    ∷ at (pos 1024) (pos 512) (pos 512)
    ∷ []
unfolding
    moved_to table_of lattice_place cut_place moved_place point_place place_of
    cells points linear cell kind_of directions direction long is_start direction_of step stays_in far_kind far_index near is_move
places = refl

-- x, y and z turn as the differences of a positive tetrahedron do
abbrev pub corner : Axis → Place
corner along_x = xyz (pos 1) (pos 0) (pos 0)
corner along_y = xyz (pos 0) (pos 1) (pos 0)
corner along_z = xyz (pos 0) (pos 0) (pos 1)

abbrev pub origin : Place
origin = xyz (pos 0) (pos 0) (pos 0)

pub right_handed : six_volume origin (corner along_x) (corner along_y) (corner along_z) ≡ pos 1
unfolding six_volume triple dot cross
right_handed = refl
