-- The three axes, and what stands along each of them.
use Rattle.std.specs.Prelude.{Bool, ◌&&◌, ◌||◌}

pub data Axis : Type 0 where
  along_x along_y along_z : Axis

-- a, b, c along x, y, z
abbrev pub xyz {ℓ} : {A : Type ℓ} → A → A → A → Axis → A
xyz a b c along_x = a
xyz a b c along_y = b
xyz a b c along_z = c

-- along every axis; along some axis
abbrev pub everywhere : (Axis → Bool) → Bool
everywhere f = f along_x && (f along_y && f along_z)

abbrev pub somewhere : (Axis → Bool) → Bool
somewhere f = f along_x || (f along_y || f along_z)
