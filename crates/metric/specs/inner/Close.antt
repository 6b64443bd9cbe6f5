-- y is within one part in 2 ^ 53 of n: |y - n| times 2 ^ 53 is at most n. (A double has 53 binary digits.)
use Rattle.std.specs.Prelude.{ℕ, ◌+◌, ◌*◌, ◌^◌, ◌≤◌}

pub record Close (n y : ℕ) : Type 0 where
  pub low : n * 2 ^ 53 ≤ y * 2 ^ 53 + n
  pub high : y * 2 ^ 53 ≤ n * 2 ^ 53 + n
