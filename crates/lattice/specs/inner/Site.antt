-- A decoded lattice point of the code, and the step of a code as the code holds it.
use Rattle.std.specs.Prelude.{ℕ, ◌+◌, ◌*◌, ◌-◌, ◌/◌, ◌≤◌, ◌<◌, ◌≡◌, Bool, ◌&&◌, leb}
use Rattle.lattice.specs.declared.Sizes.{Sizes}
use Rattle.lattice.specs.declared.Kind.{Kind}
use Rattle.lattice.specs.declared.Kind.TheVariants.{Corner, Centre}
use Rattle.lattice.specs.declared.Site.{Site}
use Rattle.lattice.specs.declared.Shift.{Shift}
use Rattle.lattice.specs.Axis.{Axis, along_x, along_y, along_z, xyz}
use Rattle.lattice.specs.Counts.{widest, grid}
use Rattle.lattice.specs.Point.{other, number, kind_of, index_of}
use Rattle.lattice.specs.Direction.{Step, direction, step}

-- a bound that the numbers of all points are below, rounder than `most_points`
abbrev pub most : ℕ
most = 1000000

abbrev pub index : Site → Axis → ℕ
index q = xyz q.x q.y q.z

-- the point of a kind with these indices, its own number, and the number that its indices have in the other kind
unfoldable pub site_at : Sizes → Kind → (Axis → ℕ) → Site
site_at s k i = record { kind = k; x = i along_x; y = i along_y; z = i along_z; own = number s k i; across = number s (other k) i }

abbrev pub site_of : Sizes → ℕ → Site
site_of s p = site_at s (kind_of s p) (index_of s p)

-- a site that is what it says
pub record Sited (s : Sizes) (q : Site) : Type 0 where
  pub x_in : q.x < grid s q.kind along_x
  pub y_in : q.y < grid s q.kind along_y
  pub z_in : q.z < grid s q.kind along_z
  pub own_is : q.own ≡ number s q.kind (index q)
  pub across_is : q.across ≡ number s (other q.kind) (index q)

-- 1 where doubled coordinates are odd
abbrev pub odd_of : Kind → ℕ
odd_of Corner = 0
odd_of Centre = 1

-- a step from the doubled coordinate w stays between 0 and 2n
abbrev pub stays_by : ℕ → ℕ → ℕ → ℕ → Bool
stays_by n w up down = leb down w && leb (w + up) (2 * n + down)

-- three steps as the code holds them
abbrev pub shift_by : (Axis → Step) → Shift
shift_by t =
    record {
      ux = (t along_x).up;
      uy = (t along_y).up;
      uz = (t along_z).up;
      dx = (t along_x).down;
      dy = (t along_y).down;
      dz = (t along_z).down;
    }

-- none is more than 2
abbrev pub SmallShift : Shift → Type 0
SmallShift t = (t.ux ≤ 2) × (t.uy ≤ 2) × (t.uz ≤ 2) × (t.dx ≤ 2) × (t.dy ≤ 2) × (t.dz ≤ 2)

-- the numbers of a direction; how far a code leads
unfoldable pub shift_along : ℕ → Shift
shift_along d = shift_by (direction d)

abbrev pub turned_shift : Shift → Shift
turned_shift t = record { ux = t.dx; uy = t.dy; uz = t.dz; dx = t.ux; dy = t.uy; dz = t.uz }

unfoldable pub shift_of : ℕ → Shift
shift_of c = shift_by (step c)

-- how many numbers a step leads up and down in a grid of a by b by any, from a point whose doubled coordinates are odd or not
unfoldable pub risen : ℕ → ℕ → ℕ → Shift → ℕ
risen a b odd t = (t.ux + odd) / 2 + a * ((t.uy + odd) / 2 + b * ((t.uz + odd) / 2))

unfoldable pub fallen : ℕ → ℕ → ℕ → Shift → ℕ
fallen a b odd t = (t.dx + 1 - odd) / 2 + a * ((t.dy + 1 - odd) / 2 + b * ((t.dz + 1 - odd) / 2))

-- what a stride asks: small numbers, and an end that is not below 0
pub record Stride (a b base odd : ℕ) (t : Shift) : Type 0 where
  pub a_small : a ≤ widest
  pub b_small : b ≤ widest
  pub base_small : base ≤ most
  pub odd_small : odd ≤ 1
  pub steps_small : SmallShift t
  pub ends : fallen a b odd t ≤ base + risen a b odd t
