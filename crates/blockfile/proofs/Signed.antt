-- Two's complement in two bytes: a sample from its bytes, -32768 included. Assumes nothing.
use Prim.Native.Nat.{ℕ, suc, ◌-◌, ◌<◌, ◌≤◌}
use native.Mathlib.Omega.{arith}
use mathlib.Core.Path.{◌≡◌}
use lib.IntN.{pos, negsuc}
use borrow.Author.Tests.{lt-ltb, le-ltb}
use mir.Syntax.{w16}
use mathlib.Core.Logic.{inl, inr}
use mir.Val.{to_z}
use Rattle.basics.proofs.Test.{lt_or}
use Rattle.blockfile.specs.Format.{signed}

pub signed_small : (n : ℕ) → n < 32768 → signed n ≡ pos n
unfolding signed
signed_small n h = simp (lt-ltb n 32768 h)

pub signed_large : (n : ℕ) → 32768 ≤ n → signed n ≡ negsuc (65535 - n)
unfolding signed
signed_large n h = simp (le-ltb n 32768 h)

-- the same in the machine's reading of sixteen bits
pub signed_is : (n : ℕ) → n < 65536 → to_z w16 n ≡ signed n
unfolding signed
signed_is n f =
    elim (lt_or n 32768) [
      | inl h ↦ simp (lt-ltb n 32768 h)
      | inr h ↦
          let e : 65536 - suc n ≡ 65535 - n = omega arith in
          simp (le-ltb n 32768 h, e)
    ]
