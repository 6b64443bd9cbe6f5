-- Sizes that pass the test are sizes 1 to 64, and the other way round. Assumes nothing.
use Prim.Native.Nat.{◌≤◌}
use mathlib.Core.Path.{◌≡◌, subst}
use mathlib.Core.Bool.{true, ◌&&◌}
use lib.Dec.{T, leb, leb→le, le→leb}
use Rattle.basics.proofs.Test.{&&-l, &&-r, &&-i, T_true, true_T}
use Rattle.lattice.specs.declared.Sizes.{Sizes}
use Rattle.lattice.specs.declared.Lattice.{Lattice}
use Rattle.lattice.specs.Axis.{Axis, along_x, along_y, along_z}
use Rattle.lattice.specs.Counts.{size, largest, sizes_fit, Sized}
use Rattle.lattice.proofs.Axes.{everywhere_use, everywhere_i}

pub fits_sized : (s : Sizes) → sizes_fit s ≡ true → Sized s
unfolding sizes_fit
fits_sized s e =
    record {
      x_low = low along_x;
      x_high = high along_x;
      y_low = low along_y;
      y_high = high along_y;
      z_low = low along_z;
      z_high = high along_z;
    }
  where
    at : (a : Axis) → T (leb 1 (size s a) && leb (size s a) largest)
    at a = everywhere_use (λ a. leb 1 (size s a) && leb (size s a) largest) (true_T _ e) a

    low : (a : Axis) → 1 ≤ size s a
    low a = leb→le _ _ (&&-l (leb 1 (size s a)) _ (at a))

    high : (a : Axis) → size s a ≤ largest
    high a = leb→le _ _ (&&-r (leb 1 (size s a)) _ (at a))

module _ (s : Sizes) (z : Sized s) where
  pub size_low : (a : Axis) → 1 ≤ size s a
  size_low along_x = z.x_low
  size_low along_y = z.y_low
  size_low along_z = z.z_low

  pub size_high : (a : Axis) → size s a ≤ largest
  size_high along_x = z.x_high
  size_high along_y = z.y_high
  size_high along_z = z.z_high

  pub sized_fits : sizes_fit s ≡ true
  unfolding sizes_fit
  sized_fits =
      T_true _ (everywhere_i (λ a. leb 1 (size s a) && leb (size s a) largest)
      (λ a. &&-i (leb 1 (size s a)) _ (le→leb 1 _ (size_low a)) (le→leb _ largest (size_high a))))

-- the sizes of a lattice are taken
pub lattice_fits : (l : Lattice) {s : Sizes} → l.sizes ≡ s → sizes_fit s ≡ true
lattice_fits l e = subst (λ (s : Sizes). sizes_fit s ≡ true) e (sized_fits l.sizes l.sized)
