-- Labels of points, from the tests that the code makes of a sample and of a state byte. Assumes nothing.
use Prim.Native.Nat.{ℕ, ◌^◌, ◌<◌}
use mathlib.Core.Path.{◌≡◌, refl, ap}
use mathlib.Core.Bool.{true, false}
use mathlib.Core.List.{List}
use lib.IntN.{ℤ, pos}
use lib.ListN.{get_or}
use lib.Signed.{mag}
use mir.Syntax.{w16}
use mir.Val.{of_z, to_z}
use mir.ValLaws.{to_z-of_z}
use Rattle.moving.specs.declared.Label.{Label}
use Rattle.moving.specs.declared.Label.TheVariants.{Minus, Zero, Plus}
use Rattle.moving.specs.Label.{label_of, labels, is_plus, is_minus}
use Rattle.moving.specs.State.{says_zero}
use Rattle.moving.specs.Reading.{label_after}

-- a sample that is handed to the code of the tests keeps its label
pub handed_at : (band : ℕ) (samples : List ℤ) (p : ℕ) → mag (get_or samples p (pos 0)) < 2 ^ 15
    → label_of band (to_z w16 (of_z w16 (get_or samples p (pos 0)))) ≡ labels band samples p
unfolding labels
handed_at band samples p h = ap (label_of band) (to_z-of_z w16 (get_or samples p (pos 0)) (record { sfits = h }))

-- a label by the two tests of its sample
pub plus_label : (l : Label) → is_plus l ≡ true → Plus ≡ l
unfolding is_plus
plus_label Minus e = cc
plus_label Zero e = cc
plus_label Plus e = refl

pub minus_label : (l : Label) → is_minus l ≡ true → Minus ≡ l
unfolding is_minus
minus_label Minus e = refl
minus_label Zero e = cc
minus_label Plus e = cc

pub zero_label : (l : Label) → is_plus l ≡ false → is_minus l ≡ false → Zero ≡ l
unfolding is_plus is_minus
zero_label Minus e f = cc
zero_label Zero e f = refl
zero_label Plus e f = cc

-- a point has label zero if its state byte says so, and else the label of its sample
module _ (label : ℕ → Label) (state : List ℕ) (p : ℕ) where
  pub faded : says_zero (get_or state p 0) ≡ true → Zero ≡ label_after label state p
  unfolding label_after
  faded e = rw e refl

  pub still : {l : Label} → says_zero (get_or state p 0) ≡ false → l ≡ label p → l ≡ label_after label state p
  unfolding label_after
  still z e = rw z e
