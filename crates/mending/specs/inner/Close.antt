-- How near a byte is to the exact quotient of two sizes, 256 a / (a + b), a being the start's.
--     HalfStep, UnderStep     the distance is at most one half, or under one; both multiplied out
--     Close                   the first, or the second where the byte was held
use Rattle.std.specs.Prelude.{ℕ, ◌+◌, ◌*◌, ◌≤◌, ◌<◌, ◌≡◌}
use Rattle.mending.specs.Mend.{rounded}

module _ (a b byte : ℕ) where
  -- "within half a step of the exact quotient": |byte - 256 a / (a + b)| is at most 1/2; all times 2 (a + b)
  pub record HalfStep : Type 0 where
    pub low : 512 * a ≤ 2 * ((a + b) * byte) + (a + b)
    pub high : 2 * ((a + b) * byte) ≤ 512 * a + (a + b)

  -- "or under one step where it was held": |byte - 256 a / (a + b)| is below 1; all times a + b
  pub record UnderStep : Type 0 where
    pub low : 256 * a < (a + b) * byte + (a + b)
    pub high : (a + b) * byte < 256 * a + (a + b)

  -- a byte that was held is not the rounded quotient
  pub data Close : Type 0 where
    free : byte ≡ rounded a b → HalfStep → Close
    kept : (byte ≡ rounded a b → ⊥) → UnderStep → Close
