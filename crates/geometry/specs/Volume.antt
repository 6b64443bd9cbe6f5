-- Document 01, "Lattice tetrahedra and rows": the six-volume of a tetrahedron.
use Rattle.std.specs.Prelude.{ℤ, ◌+ℤ◌, ◌-ℤ◌, ◌*ℤ◌}
use Rattle.lattice.specs.Axis.{along_x, along_y, along_z, xyz}
use Rattle.geometry.specs.Place.{Place}

-- the difference from a place to another
abbrev pub difference : Place → Place → Place
difference p q a = q a -ℤ p a

unfoldable pub cross : Place → Place → Place
cross u v =
    xyz (u along_y *ℤ v along_z -ℤ u along_z *ℤ v along_y) (u along_z *ℤ v along_x -ℤ u along_x *ℤ v along_z)
    (u along_x *ℤ v along_y -ℤ u along_y *ℤ v along_x)

unfoldable pub dot : Place → Place → ℤ
dot u v = u along_x *ℤ v along_x +ℤ (u along_y *ℤ v along_y +ℤ u along_z *ℤ v along_z)

unfoldable pub triple : Place → Place → Place → ℤ
triple u v w = dot u (cross v w)

-- "the triple product of the differences from its first corner to the second, third and fourth"
unfoldable pub six_volume : Place → Place → Place → Place → ℤ
six_volume a b c d = triple (difference a b) (difference a c) (difference a d)
