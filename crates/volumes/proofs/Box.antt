-- A moved point stands in a box about its lattice place, 127 to each side along each axis; and a triple product that is
-- positive where its three vectors end at corners of boxes is positive wherever they end inside: it is affine in each
-- coordinate. Assumes nothing.
use Prim.Native.Nat.{ℕ, ◌+◌, ◌*◌, ◌-◌, ◌≤◌}
use mathlib.Core.Path.{◌≡◌, refl, sym, ◌∙◌, ap}
use mathlib.Core.Bool.{Bool}
use mathlib.Core.List.{List, [], ◌∷◌}
use native.Mathlib.Omega.{arith}
use native.Mathlib.Nat.{mul-le-mul_right}
use lib.Dec.{T, leb, leb→le}
use lib.IntN.{ℤ, pos, neg_ℤ, ◌+ℤ◌, ◌-ℤ◌, ◌*ℤ◌, +ℤ_assoc, +ℤ_comm}
use lib.Signed.{◌<ℤ◌}
use Rattle.basics.specs.Lists.{from}
use Rattle.basics.proofs.Test.{◌&◌, and_l, and_r, Member, here, there}
use Rattle.basics.proofs.Finite.{each, each_use}
use Rattle.basics.proofs.Integer.{above, beneath, nat, int, ◌⊕◌, ◌⊖◌, ◌⊗◌, ring, between_positive, +ℤ-left}
use Rattle.lattice.specs.Axis.{Axis, along_x, along_y, along_z, xyz}
use Rattle.lattice.specs.Direction.{Code, directions, direction, is_start, direction_of, long, step}
use Rattle.lattice.proofs.Axes.{the_axes}
use Rattle.lattice.proofs.Codes.{each_code, each_code_use}
use Rattle.geometry.specs.Place.{Place, signed}
use Rattle.geometry.specs.Volume.{cross, dot, triple}
use Rattle.geometry.proofs.Determinant.{turn}
use Rattle.volumes.proofs.Sound.{reach}

-- half a side, and the two ends of a side
abbrev pub half : ℕ
half = 127

abbrev pub ends : List ℤ
ends = pos half ∷ neg_ℤ (pos half) ∷ []

-- d is not outside them: `over` above the lower one
pub record Inner (d : ℤ) : Type 0 where
  pub over : ℕ
  pub fits : over ≤ half + half
  pub is : d ≡ pos over -ℤ pos half

-- a corner of a box about the origin; a place moved by a vector
abbrev pub Extreme : Place → Type 0
Extreme e = (a : Axis) → Member (e a) ends

abbrev pub shifted : Place → Place → Place
shifted l d a = l a +ℤ d a

-- no reach is longer than half a side
short : ℕ → Axis → Bool
short c a = leb (reach c * (step c a).up) half & leb (reach c * (step c a).down) half

all_short : T (each_code (λ c. each the_axes (short c)))
unfolding short ◌&◌ from directions direction is_start direction_of long step
all_short = tt

pub move_inner : (c t : ℕ) (a : Axis) → Code c → t ≤ reach c → Inner (pos t *ℤ signed (step c a))
unfolding short
move_inner c t a code h =
    let s = each_use the_axes (short c) (each_code_use (λ c. each the_axes (short c)) all_short c code) a in
    let up = leb→le (reach c * (step c a).up) half (and_l _ _ s) in
    let down = leb→le (reach c * (step c a).down) half (and_r _ _ s) in
    let up' : t * (step c a).up ≤ half = omega (arith, mul-le-mul_right (step c a).up h) in
    let down' : t * (step c a).down ≤ half = omega (arith, mul-le-mul_right (step c a).down h) in
    record {
      over = half + t * (step c a).up - t * (step c a).down;
      fits = omega arith;
      is =
          ring (nat t ⊗ (nat (step c a).up ⊖ nat (step c a).down))
          (nat (half + t * (step c a).up - t * (step c a).down) ⊖ nat half) (omega arith);
    }

-- a function z ↦ z k + c that is positive at the ends of an interval is so between them
inside : (f : ℤ → ℤ) (k c : ℤ) → ((z : ℤ) → f z ≡ z *ℤ k +ℤ c) → (l d : ℤ) → Inner d
    → ((e : ℤ) → Member e ends → pos 0 <ℤ f (l +ℤ e)) → pos 0 <ℤ f (l +ℤ d)
inside f k c affine l d I h =
    between_positive (f (l +ℤ pos half)) (f (l +ℤ neg_ℤ (pos half))) (f (l +ℤ d)) m n (m + n) (omega arith) mixed
    (h (pos half) here) (h (neg_ℤ (pos half)) (there here))
  where
    m : ℕ
    m = I.over

    n : ℕ
    n = half + half - m

    side : m + n ≡ half + half
    side = omega (arith, I.fits)

    mixed : pos (m + n) *ℤ f (l +ℤ d) ≡ pos m *ℤ f (l +ℤ pos half) +ℤ pos n *ℤ f (l +ℤ neg_ℤ (pos half))
    mixed =
        (λ i. pos (m + n) *ℤ f (l +ℤ I.is i)) ∙ ap (λ (z : ℤ). pos (m + n) *ℤ z) (affine (l +ℤ (pos m -ℤ pos half)))
        ∙ ring (nat (m + n) ⊗ ((int l ⊕ (nat m ⊖ nat half)) ⊗ int k ⊕ int c))
        (nat m ⊗ ((int l ⊕ nat half) ⊗ int k ⊕ int c) ⊕ nat n ⊗ ((int l ⊕ int (neg_ℤ (pos half))) ⊗ int k ⊕ int c))
        (omega (arith, ap (λ (z : ℕ). m * z * above k) side, ap (λ (z : ℕ). m * z * beneath k) side))
        ∙ (λ i. pos m *ℤ sym (affine (l +ℤ pos half)) i +ℤ pos n *ℤ sym (affine (l +ℤ neg_ℤ (pos half))) i)

-- one vector that ends in a box, axis by axis
extreme : {i j m : ℤ} → Member i ends → Member j ends → Member m ends → Extreme (xyz i j m)
extreme p q r along_x = p
extreme p q r along_y = q
extreme p q r along_z = r

last_first : (x y z : ℤ) → x +ℤ (y +ℤ z) ≡ z +ℤ (x +ℤ y)
last_first x y z = sym (+ℤ_assoc x y z) ∙ +ℤ_comm (x +ℤ y) z

in_box : (k l d : Place) → ((a : Axis) → Inner (d a)) → ((e : Place) → Extreme e → pos 0 <ℤ dot (shifted l e) k)
    → pos 0 <ℤ dot (shifted l d) k
unfolding dot
in_box k l d I h =
    let Y = l along_y +ℤ d along_y in
    let Z = l along_z +ℤ d along_z in
    inside (λ x. dot (xyz x Y Z) k) (k along_x) (Y *ℤ k along_y +ℤ Z *ℤ k along_z) (λ x. refl)
    (l along_x) (d along_x) (I along_x) λ i p.
    let X = l along_x +ℤ i in
    inside (λ y. dot (xyz X y Z) k) (k along_y) _ (λ y. +ℤ-left (X *ℤ k along_x) (y *ℤ k along_y) (Z *ℤ k along_z))
    (l along_y) (d along_y) (I along_y) λ j q.
    let Y = l along_y +ℤ j in
    inside (λ z. dot (xyz X Y z) k) (k along_z) _ (λ z. last_first (X *ℤ k along_x) (Y *ℤ k along_y) (z *ℤ k along_z))
    (l along_z) (d along_z) (I along_z) λ m r.
    h (xyz i j m) (extreme p q r)

-- three vectors, each ending in a box
pub in_boxes : (l₁ l₂ l₃ d₁ d₂ d₃ : Place)
    → ((a : Axis) → Inner (d₁ a)) → ((a : Axis) → Inner (d₂ a)) → ((a : Axis) → Inner (d₃ a))
    → ((e₁ e₂ e₃ : Place) → Extreme e₁ → Extreme e₂ → Extreme e₃
    → pos 0 <ℤ triple (shifted l₁ e₁) (shifted l₂ e₂) (shifted l₃ e₃))
    → pos 0 <ℤ triple (shifted l₁ d₁) (shifted l₂ d₂) (shifted l₃ d₃)
unfolding triple
in_boxes l₁ l₂ l₃ d₁ d₂ d₃ I₁ I₂ I₃ h =
    in_box (cross (shifted l₂ d₂) (shifted l₃ d₃)) l₁ d₁ I₁ λ e₁ c₁.
    rw turn (in_box (cross (shifted l₃ d₃) (shifted l₁ e₁)) l₂ d₂ I₂ λ e₂ c₂.
    rw turn (in_box (cross (shifted l₁ e₁) (shifted l₂ e₂)) l₃ d₃ I₃ λ e₃ c₃.
    rw turn (h e₁ e₂ e₃ c₁ c₂ c₃)))
