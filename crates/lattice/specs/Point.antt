-- Document 01, "The block": lattice points, their doubled coordinates and their numbers.
-- A point is a cube corner or a cube centre, with three indices: so "No other points exist" needs no test.
use Rattle.std.specs.Prelude.{ℕ, ◌+◌, ◌*◌, ◌-◌, ◌/◌, ◌%◌, ◌<◌, ltb, if◌then◌else◌}
use Rattle.lattice.specs.declared.Sizes.{Sizes}
use Rattle.lattice.specs.declared.Kind.{Kind}
use Rattle.lattice.specs.declared.Kind.TheVariants.{Corner, Centre}
use Rattle.lattice.specs.Axis.{Axis, along_x, along_y, along_z, xyz}
use Rattle.lattice.specs.Counts.{grid, corners}

-- "All even: a cube corner. All odd: a cube centre": the doubled coordinate of an index
abbrev pub doubled : Kind → ℕ → ℕ
doubled Corner i = 2 * i
doubled Centre i = 2 * i + 1

abbrev pub other : Kind → Kind
other Corner = Centre
other Centre = Corner

-- the indices of a point of a kind lie in the block
abbrev pub Inside : Sizes → Kind → (Axis → ℕ) → Type 0
Inside s k i = (a : Axis) → i a < grid s k a

-- "X/2 + (nx+1) times (Y/2 + (ny+1) times Z/2)": the number of a cell in a grid m
unfoldable pub linear : (Axis → ℕ) → (Axis → ℕ) → ℕ
linear m i = i along_x + m along_x * (i along_y + m along_y * i along_z)

-- "Corners are numbered first .. Centres follow"
abbrev pub number : Sizes → Kind → (Axis → ℕ) → ℕ
number s Corner i = linear (grid s Corner) i
number s Centre i = corners s + linear (grid s Centre) i

-- the way back: the cell of a number, and the kind and the indices of a point
unfoldable pub cell : (Axis → ℕ) → ℕ → Axis → ℕ
cell m c = xyz (c % m along_x) (c / m along_x % m along_y) (c / m along_x / m along_y)

unfoldable pub kind_of : Sizes → ℕ → Kind
kind_of s p = if ltb p (corners s) then Corner else Centre

abbrev pub cell_of : Sizes → Kind → ℕ → Axis → ℕ
cell_of s Corner p = cell (grid s Corner) p
cell_of s Centre p = cell (grid s Centre) (p - corners s)

abbrev pub index_of : Sizes → ℕ → Axis → ℕ
index_of s p = cell_of s (kind_of s p) p
