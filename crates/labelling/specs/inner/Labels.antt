-- Samples with a label that is not zero, by a band.
use Rattle.std.specs.Prelude.{ℕ, Bool, true, false, ℤ}
use Rattle.moving.specs.Label.{label_of, is_plus, is_minus}

-- plus, outside the band and above zero; or minus, outside it and below
unfoldable pub has_label : Bool → ℕ → ℤ → Bool
has_label true band x = is_plus (label_of band x)
has_label false band x = is_minus (label_of band x)
