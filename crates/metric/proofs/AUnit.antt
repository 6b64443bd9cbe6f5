-- What becomes of an answer of the place call, computed: products, the ends of the unit's range, refusals before 13. Units and coordinates
-- are bit patterns of floats. Assumes nothing. (Files are checked in the order of their names: this one first, so that a wrong definition
-- is refused by what it gives.)
use Prim.Native.Nat.{ℕ}
use mathlib.Core.Path.{◌≡◌, refl}
use mathlib.Core.List.{List, [], ◌∷◌, map}
use lib.Ieee.{binary64, of_int, mul, le, of_bits}
use Rattle.filling.specs.declared.Placed.{Placed}
use Rattle.filling.specs.Located.{unplaced}
use Rattle.metric.specs.Millimetres.{unit_fits, scaled, metric, in_millimetres}
use Rattle.metric.specs.cases.Bits.{Bits, bits, in_bits}

pub record Question : Type 0 where
  pub placed : Placed
  pub unit : ℕ
  pub answer : Bits

abbrev ask : Placed → ℕ → Bits → Question
ask p u b = record { placed = p; unit = u; answer = b }

abbrev at : ℕ → ℕ → ℕ → Placed
at x y z = record { number = 0; x = x; y = y; z = z }

abbrev refused : ℕ → Bits
refused n = bits n 0 0 0

abbrev asked : Placed → ℕ → Bits
asked p unit = in_bits (in_millimetres (of_bits binary64 unit) p)

-- the questions of a list are answered as it says
abbrev So : List Question → Type 0
So l = map (λ q. asked q.placed q.unit) l ≡ map (λ q. q.answer) l

-- 512, 384 and 640 steps at 1/512
pub at_512th : asked (at 512 384 640) 0x3f60_0000_0000_0000 ≡ bits 0 0x3ff0_0000_0000_0000 0x3fe8_0000_0000_0000 0x3ff4_0000_0000_0000
unfolding of_int mul le of_bits unit_fits scaled metric in_millimetres in_bits
at_512th = refl

-- and at 0.1, where 384 steps lie halfway between two floats and go to the even one
pub at_tenth : asked (at 512 384 640) 0x3fb9_9999_9999_999a ≡ bits 0 0x4049_9999_9999_999a 0x4043_3333_3333_3334 0x4050_0000_0000_0000
unfolding of_int mul le of_bits unit_fits scaled metric in_millimetres in_bits
at_tenth = refl

-- the ends, 2 ^ -20 and 16, with no step, one, and the most that there are
unfoldable pub ends : List Question
ends =
    ask (at 0 1 32768) 0x3eb0_0000_0000_0000 (bits 0 0 0x3eb0_0000_0000_0000 0x3fa0_0000_0000_0000)
    ∷ ask (at 0 1 32768) 0x4030_0000_0000_0000 (bits 0 0 0x4030_0000_0000_0000 0x4120_0000_0000_0000)
    ∷ []

pub ends_so : So ends
unfolding of_int mul le of_bits unit_fits scaled metric in_millimetres in_bits ends
ends_so = refl

-- their neighbours outside; a NaN, both infinities, both zeros, -1
unfoldable pub outside : List ℕ
outside =
    0x3eaf_ffff_ffff_ffff
    ∷ 0x4030_0000_0000_0001
    ∷ 0x7ff8_0000_0000_0000
    ∷ 0x7ff0_0000_0000_0000
    ∷ 0xfff0_0000_0000_0000
    ∷ 0x0000_0000_0000_0000
    ∷ 0x8000_0000_0000_0000
    ∷ 0xbff0_0000_0000_0000
    ∷ []

pub outside_so : map (asked (at 0 1 32768)) outside ≡ map (λ u. refused 13) outside
unfolding of_int mul le of_bits unit_fits scaled metric in_millimetres in_bits outside
outside_so = refl

-- the place call's own refusals, at a unit that fits and at one that does not
unfoldable pub order : List Question
order =
    ask (unplaced 8) 0x3ff0_0000_0000_0000 (refused 8)
    ∷ ask (unplaced 8) 0 (refused 8)
    ∷ ask (unplaced 9) 0 (refused 9)
    ∷ ask (unplaced 1) 0 (refused 1)
    ∷ ask (unplaced 3) 0 (refused 3)
    ∷ ask (unplaced 4) 0 (refused 4)
    ∷ []

pub order_so : So order
unfolding of_int mul le of_bits unit_fits scaled metric in_millimetres in_bits order
order_so = refl
