-- Labels by bands: document 02's F-3 by itself. Assumes nothing. (Files are checked in the order of their names: this one first, so that a
-- wrong label is refused by what it gives.)
--     in_bands           samples at, above and below a band
--     by_the_largest     by the band 32767 only -32768 is not zero
--     bands_taken        which bands fit
use mathlib.Core.Path.{◌≡◌, refl}
use mathlib.Core.Bool.{true, false}
use mathlib.Core.List.{List, [], ◌∷◌, map}
use lib.IntN.{ℤ, pos, neg_ℤ}
use Rattle.moving.specs.declared.Label.{Label}
use Rattle.moving.specs.declared.Label.TheVariants.{Minus, Zero, Plus}
use Rattle.moving.specs.Label.{label_of, band_fits}

-- "A sample whose size is at most the band has label zero": by the bands 0, 4 and 5
abbrev by_three : ℤ → List Label
by_three a = label_of 0 a ∷ label_of 4 a ∷ label_of 5 a ∷ []

pub in_bands :
    map by_three (pos 0 ∷ pos 1 ∷ pos 4 ∷ pos 5 ∷ pos 6 ∷ neg_ℤ (pos 1) ∷ neg_ℤ (pos 4) ∷ neg_ℤ (pos 5) ∷ neg_ℤ (pos 6) ∷ [])
    ≡ (Zero ∷ Zero ∷ Zero ∷ [])
    ∷ (Plus ∷ Zero ∷ Zero ∷ [])
    ∷ (Plus ∷ Zero ∷ Zero ∷ [])
    ∷ (Plus ∷ Plus ∷ Zero ∷ [])
    ∷ (Plus ∷ Plus ∷ Plus ∷ [])
    ∷ (Minus ∷ Zero ∷ Zero ∷ [])
    ∷ (Minus ∷ Zero ∷ Zero ∷ [])
    ∷ (Minus ∷ Minus ∷ Zero ∷ [])
    ∷ (Minus ∷ Minus ∷ Minus ∷ [])
    ∷ []
unfolding label_of
in_bands = refl

-- by the largest band every sample is zero but -32768, whose size is 32,768
pub by_the_largest :
    map (label_of 32767) (pos 32767 ∷ neg_ℤ (pos 32767) ∷ neg_ℤ (pos 32768) ∷ []) ≡ Zero ∷ Zero ∷ Minus ∷ []
unfolding label_of
by_the_largest = refl

-- "a band from 0 to 32767"
pub bands_taken : map band_fits (0 ∷ 32767 ∷ 32768 ∷ []) ≡ true ∷ true ∷ false ∷ []
unfolding band_fits
bands_taken = refl
