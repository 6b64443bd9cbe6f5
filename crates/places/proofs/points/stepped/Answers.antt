-- Every number stays in its box, so the sum is what it stands for. Assumes nothing.
use native.Mathlib.Omega.{arith}
use Prim.Native.Nat.{ℕ, ◌≤◌}
use lib.IntN.{pos, ◌-ℤ◌}
use Rattle.triple.specs.inner.Places.{place_box}
use Rattle.triple.proofs.Box.{Is, back, nat_within, wider, held, add_is, sub_is, mul_is}
use Rattle.places.proofs.points.stepped.Goals as goal

-- a step of a direction
way-is : {up down : ℕ} → up ≤ 2 → down ≤ 2 → Is 4 (back (back (pos up) -ℤ back (pos down))) (pos up -ℤ pos down)
way-is h g = sub_is (held (nat_within 2 _ h) tt) (held (nat_within 2 _ g) tt) tt

pub returns : goal.returns
returns c =
    let way = mul_is (held (nat_within 256 _ c.requires.t_bound.0) tt) (way-is c.requires.t_bound.1 c.requires.t_bound.2) tt in
    let sum = add_is (held c.requires.within tt) way tt in
    record {
      value = sum.eq;
      within_2 = rw sum.eq (wider place_box (omega arith) sum.inside);
    }
