-- A table of bits in words of 64, and how many are set before one.
--     bit, marked      a bit of a word, and of a table
--     Adds, Clears     a table before and after: one bit set, all of them cleared
--     Ranks            at each word, how many bits are set before it
use Rattle.std.specs.Prelude.{ℕ, ◌+◌, ◌*◌, ◌/◌, ◌%◌, ◌^◌, ◌<◌, ◌≡◌, Bool, false, ◌||◌, List, length, get_or, eqb}
use Rattle.basics.specs.Lists.{count}

unfoldable pub bit : ℕ → ℕ → Bool
bit word j = eqb (word / 2 ^ j % 2) 1

unfoldable pub marked : List ℕ → ℕ → Bool
marked bits k = bit (get_or bits (k / 64) 0) (k % 64)

-- the bit k is set; the others stay
pub record Adds (k : ℕ) (old new : List ℕ) : Type 0 where
  pub long : length new ≡ length old
  pub is : (i : ℕ) → marked new i ≡ (marked old i || eqb k i)

pub record Clears (old new : List ℕ) : Type 0 where
  pub long : length new ≡ length old
  pub is : (i : ℕ) → marked new i ≡ false

-- counted on from a first number
pub record Ranks (bits : List ℕ) (first : ℕ) (ranks : List ℕ) : Type 0 where
  pub long : length ranks ≡ length bits
  pub is : (w : ℕ) → w < length bits → get_or ranks w 0 ≡ first + count (marked bits) (64 * w)
