-- A row's six-volume as a number without a sign: it is above zero and small. Assumes nothing.
use Prim.Native.Nat.{ℕ, ◌^◌, ◌<◌, ◌≤◌}
use native.Mathlib.Omega.{arith}
use mathlib.Core.Path.{◌≡◌, refl, subst}
use lib.IntN.{ℤ, pos, negsuc, nat_abs}
use lib.Dec.{T}
use lib.Signed.{mag, non_neg, ◌<ℤ◌}
use mir.Syntax.{w64}
use mir.Val.{Fits}
use Rattle.geometry.specs.Place.{Place}
use Rattle.geometry.specs.Volume.{six_volume}
use Rattle.filling.specs.Mesh.{row_volume}
use Rattle.stencil.specs.Row.{row}
use Rattle.triple.proofs.Box.{back, result_is}
use Rattle.bounds.specs.inner.Most.{volume_most}

-- a row's corners at their places
pub corners_volume : (place : ℕ → Place) (a b c d : ℕ) {p q r t : Place} → p ≡ place a → q ≡ place b → r ≡ place c → t ≡ place d
    → six_volume p q r t ≡ row_volume place (row a b c d)
unfolding row_volume
corners_volume place a b c d e f g h = λ i. six_volume (e i) (f i) (g i) (h i)

pub above : (z : ℤ) → pos 0 <ℤ z → pos (nat_abs z) ≡ z
above (pos n) h = refl
above (negsuc n) h = absurd h.lt

-- the code's number, which is a row's six-volume
module _ (v : ℤ) {z : ℤ} (fits : mag v < 2 ^ 63) (is : v ≡ z) (positive : pos 0 <ℤ z) (small : nat_abs z ≤ volume_most) where
  pub cast_fits : T (non_neg (back v)) × Fits w64 (nat_abs (back v))
  cast_fits =
      rw (result_is v fits is)
      (subst (λ (x : ℤ). T (non_neg x)) (above z positive) tt, record { fits = omega (arith, small) })

  pub cast_is : pos (nat_abs (back v)) ≡ z
  cast_is = rw (result_is v fits is) (above z positive)

  pub cast_small : nat_abs (back v) ≤ volume_most
  cast_small = rw (result_is v fits is) small
