-- Samples whose labels are opposed, by any band, have sizes above zero. Assumes nothing.
use Prim.Native.Nat.{ℕ, ◌<◌}
use native.Mathlib.Omega.{arith}
use mathlib.Core.Path.{◌≡◌}
use mathlib.Core.Bool.{true}
use lib.IntN.{ℤ}
use Rattle.basics.proofs.Test.{true_T}
use Rattle.moving.specs.Label.{label_of, opposed}
use Rattle.moving.proofs.Band.{opposed_out}
use Rattle.mending.specs.Mend.{size_of}

pub opposed_some : (band : ℕ) (x y : ℤ) → opposed (label_of band x) (label_of band y) ≡ true → (0 < size_of x) × (0 < size_of y)
unfolding size_of
opposed_some band x y e = let out = opposed_out band x y (true_T _ e) in (omega (arith, out.0), omega (arith, out.1))
