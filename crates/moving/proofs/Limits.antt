-- The cut bytes that violate an end, listed for each of the fourteen codes: the limits of P2 to P9 of document 01, on every edge. And
-- that 4 and 3 are the squares of the edges' lengths. Assumes nothing.
use Prim.Native.Nat.{ℕ, ◌+◌, ◌*◌}
use mathlib.Core.Path.{◌≡◌, refl}
use mathlib.Core.List.{List, [], ◌∷◌, ◌++◌, map}
use lib.ListN.{replicate}
use Rattle.std.specs.Prelude.{if◌then◌else◌}
use Rattle.basics.specs.Lists.{gather, from, below}
use Rattle.lattice.specs.Axis.{along_x, along_y, along_z}
use Rattle.lattice.specs.Direction.{Step, directions, direction, long, is_start, direction_of}
use Rattle.moving.specs.Violation.{rule1, limit, measured, squared, violation, violated, violates}

unfoldable pub violating : ℕ → List ℕ
violating c = gather (λ t. if violates rule1 c t then t ∷ [] else []) (below 256)

-- bytes 1 to 63 and 1 to 105 violate the start of a long and of a short edge, 193 to 255 and 151 to 255 the end
pub limits :
    map violating (from 1 14)
    ≡ replicate 3 (from 1 63) ++ replicate 4 (from 1 105) ++ replicate 3 (from 193 63) ++ replicate 4 (from 151 105)
unfolding violating gather from violated violation limit measured long is_start direction_of
limits = refl

-- so the nearest cut by document 02's numbers is the nearest in space: a direction's three numbers, squared and added
abbrev square_of : Step → ℕ
square_of w = (w.up + w.down) * (w.up + w.down)

abbrev length_squared : ℕ → ℕ
length_squared d = square_of (direction d along_x) + square_of (direction d along_y) + square_of (direction d along_z)

pub lengths : map (λ d. squared d 1) (below 7) ≡ map length_squared (below 7)
unfolding from squared long direction directions
lengths = refl
