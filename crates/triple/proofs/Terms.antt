-- The terms of the six-volume, each of them over the axes, as the code computes them. Assumes nothing.
use Prim.Native.Nat.{ℕ, ◌*◌}
use lib.IntN.{◌-ℤ◌, ◌*ℤ◌}
use Rattle.lattice.specs.Axis.{Axis}
use Rattle.triple.specs.declared.Place.{Place}
use Rattle.triple.specs.inner.Places.{InBox, place_box, place_at}
use Rattle.triple.proofs.Box.{Is, back, at, mul_is, sub_is}

-- boxes around differences, and around products of two of them
abbrev pub difference_box : ℕ
difference_box = 80000

abbrev pub product_box : ℕ
product_box = difference_box * difference_box

abbrev pub cross_box : ℕ
cross_box = 12800000000

pub led : {p q : Place} → InBox place_box p → InBox place_box q → (a : Axis)
    → Is difference_box (back (back (place_at q a) -ℤ back (place_at p a))) (place_at q a -ℤ place_at p a)
led h g a = sub_is (at g tt a) (at h tt a) tt

module _ {v w : Place} (h : InBox difference_box v) (g : InBox difference_box w) where
  pub product : (a b : Axis) → Is product_box (back (back (place_at v a) *ℤ back (place_at w b))) (place_at v a *ℤ place_at w b)
  product a b = mul_is (at h tt a) (at g tt b) tt

  pub minor : (a b : Axis)
      → Is cross_box (back (back (back (place_at v a) *ℤ back (place_at w b)) -ℤ back (back (place_at v b) *ℤ back (place_at w a))))
      (place_at v a *ℤ place_at w b -ℤ place_at v b *ℤ place_at w a)
  minor a b = sub_is (product a b) (product b a) tt

-- a product with a coordinate of a cross product
pub scaled : {u v : Place} → InBox difference_box u → InBox cross_box v → (a : Axis)
    → Is (difference_box * cross_box) (back (back (place_at u a) *ℤ back (place_at v a))) (place_at u a *ℤ place_at v a)
scaled h g a = mul_is (at h tt a) (at g tt a) tt
