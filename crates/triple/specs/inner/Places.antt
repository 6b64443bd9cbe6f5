-- Places as the code holds them: three signed numbers, each of them small.
use Rattle.std.specs.Prelude.{ℕ, ◌≤◌, ◌≡◌, ℤ, pos, nat_abs, ◌+ℤ◌, ◌*ℤ◌}
use Rattle.lattice.specs.Axis.{Axis, xyz}
use Rattle.lattice.specs.Direction.{Step}
use Rattle.geometry.specs.Place.{signed}
use Rattle.triple.specs.declared.Place.{Place}

-- the place that the code's three numbers are
abbrev pub place_at : Place → Axis → ℤ
place_at p = xyz p.x p.y p.z

-- t times a way's three numbers from a place
unfoldable pub along : (Axis → ℤ) → (Axis → Step) → ℕ → Axis → ℤ
along p way t a = p a +ℤ pos t *ℤ signed (way a)

-- at most n from 0; so are all coordinates of a place
pub record Within (n : ℕ) (z : ℤ) : Type 0 where
  pub size : nat_abs z ≤ n

pub record InBox (n : ℕ) (p : Place) : Type 0 where
  pub in_x : Within n p.x
  pub in_y : Within n p.y
  pub in_z : Within n p.z

-- no lattice place of a block is further from 0 than this, nor any cut or moved point
abbrev pub lattice_box : ℕ
lattice_box = 33024

abbrev pub place_box : ℕ
place_box = 40000

-- no coordinate is below 0
pub record Nonnegative (p : Place) : Type 0 where
  pub x_up : p.x ≡ pos (nat_abs p.x)
  pub y_up : p.y ≡ pos (nat_abs p.y)
  pub z_up : p.z ≡ pos (nat_abs p.z)
