-- From a point that is not on the rim all fourteen edges exist: along every axis there is room for a step. Assumes nothing.
use Prim.Native.Nat.{ℕ, ◌+◌, ◌*◌, ◌≤◌, ◌<◌}
use native.Mathlib.Omega.{arith}
use mathlib.Core.Path.{◌≡◌, refl, subst}
use mathlib.Core.Bool.{Bool, true, false, ◌||◌}
use lib.Dec.{T, eqb, leb, le→leb}
use borrow.Author.Tests.{eqb-false}
use Rattle.basics.proofs.Test.{&&-i, T_true}
use Rattle.lattice.specs.declared.Sizes.{Sizes}
use Rattle.lattice.specs.declared.Kind.{Kind}
use Rattle.lattice.specs.declared.Kind.TheVariants.{Corner, Centre}
use Rattle.lattice.specs.Axis.{Axis, along_x, along_y, along_z}
use Rattle.lattice.specs.Counts.{size, along, grid}
use Rattle.lattice.specs.Point.{doubled, Inside}
use Rattle.lattice.specs.Direction.{Code, step}
use Rattle.lattice.specs.Edge.{stays_in, exists}
use Rattle.lattice.specs.Rim.{outermost, rim_at}
use Rattle.lattice.proofs.Axes.{everywhere_i}
use Rattle.lattice.proofs.Codes.{up_small, down_small}

or_no : (a b : Bool) → (a || b) ≡ false → (a ≡ false) × (b ≡ false)
or_no true b e = absurd (subst T e tt)
or_no false b e = (refl, e)

-- a step along an axis where a point is neither the first nor the last
steps : (k : Kind) (n i up down : ℕ) → i < along k n → outermost (along k n) i ≡ false → up ≤ 2 → down ≤ 2
    → (down ≤ doubled k i) × (doubled k i + up ≤ 2 * n + down)
unfolding outermost
steps k n i up down l f u v = go k l (eqb-false _ _ ends.0) (eqb-false _ _ ends.1)
  where
    ends : (eqb i 0 ≡ false) × (eqb (i + 1) (along k n) ≡ false)
    ends = or_no (eqb i 0) (eqb (i + 1) (along k n)) f

    go : (k : Kind) → i < along k n → (i ≡ 0 → ⊥) → (i + 1 ≡ along k n → ⊥) → (down ≤ doubled k i) × (doubled k i + up ≤ 2 * n + down)
    go Corner l a b = (omega arith, omega arith)
    go Centre l a b = (omega arith, omega arith)

module _ (s : Sizes) (k : Kind) (i : Axis → ℕ) (l : Inside s k i) (f : rim_at s k i ≡ false) where
  abbrev outer : Axis → Bool
  outer a = outermost (grid s k a) (i a)

  inner : (a : Axis) → outer a ≡ false
  unfolding rim_at
  inner along_x = (or_no (outer along_x) (outer along_y || outer along_z) f).0
  inner along_y = (or_no (outer along_y) (outer along_z) (or_no (outer along_x) (outer along_y || outer along_z) f).1).0
  inner along_z = (or_no (outer along_y) (outer along_z) (or_no (outer along_x) (outer along_y || outer along_z) f).1).1

  pub inner_exists : (c : ℕ) → Code c → exists s k i c ≡ true
  unfolding stays_in
  inner_exists c h = T_true (exists s k i c) (everywhere_i (stays_in s k i c) stays)
    where
      stays : (a : Axis) → T (stays_in s k i c a)
      stays a =
          let r = steps k (size s a) (i a) (step c a).up (step c a).down (l a) (inner a) (up_small c h a) (down_small c h a) in
          &&-i (leb (step c a).down (doubled k (i a))) _ (le→leb _ _ r.0) (le→leb _ _ r.1)
