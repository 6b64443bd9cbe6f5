-- Request F-5 of document 02: "where eight bytes in a row must all be zero, test them together and look closer only if one is
-- not. The joint test passes exactly when all eight are zero."
--     Blank      the bytes of a range are all zero
--     Joint      the answer of a test of n bytes together: it passes, with 0, exactly when all of them are zero
use Rattle.std.specs.Prelude.{ℕ, ◌+◌, ◌≤◌, ◌<◌, ◌≡◌, List, get_or}

-- from one offset on and before another; what is past the table's end counts as zero
abbrev pub Blank : List ℕ → ℕ → ℕ → Type 0
Blank bytes from to = (o : ℕ) → from ≤ o → o < to → get_or bytes o 0 ≡ 0

pub record Joint (bytes : List ℕ) (o n answer : ℕ) : Type 0 where
  pub passed : answer ≡ 0 → Blank bytes o (o + n)
  pub passes : Blank bytes o (o + n) → answer ≡ 0
