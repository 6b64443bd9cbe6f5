-- An answer in millimetres, each coordinate as its bit pattern: for examples, so that a sign of a zero counts.
use Rattle.std.specs.Prelude.{ℕ}
use Rattle.std.specs.Float.{binary64}
use Rattle.std.specs.Float.Ieee.{to_bits}
use Rattle.metric.specs.declared.PlacedMm.{PlacedMm}

pub record Bits : Type 0 where
  pub number : ℕ
  pub x : ℕ
  pub y : ℕ
  pub z : ℕ

abbrev pub bits : ℕ → ℕ → ℕ → ℕ → Bits
bits n x y z = record { number = n; x = x; y = y; z = z }

unfoldable pub in_bits : PlacedMm → Bits
unfolding to_bits
in_bits r = bits r.number (to_bits binary64 r.point.x) (to_bits binary64 r.point.y) (to_bits binary64 r.point.z)
