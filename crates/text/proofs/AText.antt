-- Numbers and lines, computed. Assumes nothing. (Files are checked in the order of their names: so a wrong definition is
-- refused by what it gives here.)
use mathlib.Core.Path.{◌≡◌, refl}
use mathlib.Core.List.{[], ◌∷◌, map}
use Rattle.text.specs.Text.{ascii, digits_within, decimal, line}

-- one digit, ten times as much, and the largest number of 64 bits
pub decimals : map decimal (0 ∷ 9 ∷ 10 ∷ 101 ∷ 65535 ∷ 1000000 ∷ 18446744073709551615 ∷ [])
    ≡ map ascii ("0" ∷ "9" ∷ "10" ∷ "101" ∷ "65535" ∷ "1000000" ∷ "18446744073709551615" ∷ [])
unfolding digits_within decimal
decimals = refl

-- one space between fields, and none at an end
pub lines : map line (map (map ascii) (("0" ∷ "0" ∷ []) ∷ ("5" ∷ "refused" ∷ "6" ∷ "396" ∷ []) ∷ []))
    ≡ map ascii ("0 0\n" ∷ "5 refused 6 396\n" ∷ [])
unfolding line
lines = refl
