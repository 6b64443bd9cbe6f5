-- Document 01, "The block": sizes, and how many points and lattice tetrahedra a block has.
use Rattle.std.specs.Prelude.{ℕ, ◌+◌, ◌*◌, ◌-◌, ◌≤◌, Bool, ◌&&◌, leb}
use Rattle.lattice.specs.declared.Sizes.{Sizes}
use Rattle.lattice.specs.declared.Kind.{Kind}
use Rattle.lattice.specs.declared.Kind.TheVariants.{Corner, Centre}
use Rattle.lattice.specs.Axis.{Axis, along_x, along_y, along_z, xyz, everywhere}

-- "Sizes nx, ny, nz count cubes"
abbrev pub size : Sizes → Axis → ℕ
size s = xyz s.nx s.ny s.nz

-- the largest size
abbrev pub largest : ℕ
largest = 64

-- and the most points of a kind along an axis
abbrev pub widest : ℕ
widest = 65

-- "each 1 to 64", as a test and as a fact
unfoldable pub sizes_fit : Sizes → Bool
sizes_fit s = everywhere (λ a. leb 1 (size s a) && leb (size s a) largest)

pub record Sized (s : Sizes) : Type 0 where
  pub x_low : 1 ≤ s.nx
  pub x_high : s.nx ≤ largest
  pub y_low : 1 ≤ s.ny
  pub y_high : s.ny ≤ largest
  pub z_low : 1 ≤ s.nz
  pub z_high : s.nz ≤ largest

-- along an axis of n cubes stand n + 1 cube corners and n cube centres
abbrev pub along : Kind → ℕ → ℕ
along Corner n = n + 1
along Centre n = n

-- the grid of the points of a kind
abbrev pub grid : Sizes → Kind → Axis → ℕ
grid s k a = along k (size s a)

-- how many cells a grid has
unfoldable pub cells : (Axis → ℕ) → ℕ
cells m = m along_x * (m along_y * m along_z)

-- how many cube corners; "N is the count of points"
abbrev pub corners : Sizes → ℕ
corners s = cells (grid s Corner)

unfoldable pub points : Sizes → ℕ
points s = corners s + cells (grid s Centre)

-- the most that a block has: 65³ corners and 64³ centres
abbrev pub most_points : ℕ
most_points = 536769

-- "4 times the sum of (nx-1)·ny·nz, nx·(ny-1)·nz and nx·ny·(nz-1)"
unfoldable pub tetrahedra : Sizes → ℕ
tetrahedra s =
    4
    * ((s.nx - 1) * (s.ny * s.nz) + s.nx * ((s.ny - 1) * s.nz) + s.nx * (s.ny * (s.nz - 1)))
