-- Document 01, "Moving points": "A point's label is its sample's sign: plus, minus or zero." Document 02, F-3, adds a noise band, and F-9:
-- "The band shall come first": the tests of the rim and of the cut bytes, moving, the rows and mending all read these labels.
--     label_of, labels      the label of a sample by a band, and the labelling of a block's points
--     band_most, band_fits   which bands are taken
--     is_plus, is_zero, is_minus, opposed
use Rattle.std.specs.Prelude.{ℕ, Bool, true, false, List, leb, ℤ, pos, nat_abs, get_or, if◌then◌else◌}
use Rattle.std.specs.Int.Signed.{lt_z}
use Rattle.moving.specs.declared.Label.{Label}
use Rattle.moving.specs.declared.Label.TheVariants.{Minus, Zero, Plus}

-- "A sample whose size is at most the band has label zero"; any other has "its sample's sign"
unfoldable pub label_of : ℕ → ℤ → Label
label_of band a = if leb (nat_abs a) band then Zero else if lt_z a (pos 0) then Minus else Plus

-- "Samples are signed 16-bit, one per point"
unfoldable pub labels : ℕ → List ℤ → ℕ → Label
labels band samples p = label_of band (get_or samples p (pos 0))

-- "Filling gains a band from 0 to 32767"
abbrev pub band_most : ℕ
band_most = 32767

unfoldable pub band_fits : ℕ → Bool
band_fits band = leb band band_most

unfoldable pub is_plus : Label → Bool
is_plus Minus = false
is_plus Zero = false
is_plus Plus = true

unfoldable pub is_zero : Label → Bool
is_zero Minus = false
is_zero Zero = true
is_zero Plus = false

unfoldable pub is_minus : Label → Bool
is_minus Minus = true
is_minus Zero = false
is_minus Plus = false

-- one is plus and the other is minus
unfoldable pub opposed : Label → Label → Bool
opposed Minus m = is_plus m
opposed Zero m = false
opposed Plus m = is_minus m
