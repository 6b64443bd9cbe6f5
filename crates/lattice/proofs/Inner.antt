-- Of the 35 points of a block of 2 by 2 by 2 cubes only the middle one, 13, is no rim point: every centre is of a cube with an outside
-- face. This holds the rim against document 01. Assumes nothing.
use Prim.Native.Nat.{ℕ}
use mathlib.Core.Path.{◌≡◌, refl}
use mathlib.Core.List.{List, [], ◌∷◌}
use Rattle.std.specs.Prelude.{if◌then◌else◌}
use Rattle.basics.specs.Lists.{gather, from, below}
use Rattle.lattice.specs.declared.Sizes.{Sizes}
use Rattle.lattice.specs.Counts.{cells, points}
use Rattle.lattice.specs.Point.{cell, kind_of}
use Rattle.lattice.specs.Rim.{outermost, rim_at, rim}

unfoldable pub inner_of : Sizes → List ℕ
inner_of s = gather (λ p. if rim s p then [] else p ∷ []) (below (points s))

pub rim_fits : inner_of (record { nx = 2; ny = 2; nz = 2 }) ≡ 13 ∷ []
unfolding inner_of gather from points cells cell kind_of rim_at outermost
rim_fits = refl
