-- Identities of integers by `omega`: an integer is a difference of two natural numbers, and `omega` compares what is left once all
-- products are multiplied out. Besides: when a combination of positive integers is positive. Assumes nothing.
use mathlib.Core.Path.{◌≡◌, refl, ap}
use mathlib.Core.Bool.{Bool, true, false, not, cond}
use Prim.Native.Nat.{ℕ, zero, suc, ◌+◌, ◌*◌, ◌-◌, ◌<◌}
use native.Mathlib.Omega.{arith}
use lib.Dec.{T, ltb, lt→ltb, ltb→lt, nltb→le}
use lib.IntN.{ℤ, pos, negsuc, ◌+ℤ◌, ◌-ℤ◌, ◌*ℤ◌, neg_ℤ, sub_ℕ, *ℤ_comm, neg_ℤ-+ℤ, neg_ℤ-neg_ℤ, +ℤ_assoc, +ℤ_comm}
use lib.Signed.{◌<ℤ◌, lt_z_yes}

-- how far an integer is above zero, and how far below
abbrev pub above : ℤ → ℕ
above (pos a) = a
above (negsuc a) = 0

abbrev pub beneath : ℤ → ℕ
beneath (pos a) = 0
beneath (negsuc a) = suc a

-- z is p less n
abbrev pub Is : ℤ → ℕ → ℕ → Type 0
Is z p n = above z + n ≡ beneath z + p

sub_cases : (c : Bool) (x y : ℤ) (P : ℤ → Type 0) → (T c → P x) → (T (not c) → P y) → P (cond c x y)
sub_cases true x y P f g = f tt
sub_cases false x y P f g = g tt

sub_is : (a b : ℕ) → Is (sub_ℕ a b) a b
sub_is a b =
    sub_cases (ltb a b) (negsuc (b - suc a)) (pos (a - b)) (λ z. Is z a b) (λ t. omega (arith, ltb→lt a b t))
    (λ t. omega (arith, nltb→le a b t))

add_is : (x y : ℤ) → Is (x +ℤ y) (above x + above y) (beneath x + beneath y)
add_is (pos a) (pos b) = omega arith
add_is (pos a) (negsuc b) = omega (arith, sub_is a (suc b))
add_is (negsuc a) (pos b) = omega (arith, sub_is b (suc a))
add_is (negsuc a) (negsuc b) = omega arith

neg_above : (x : ℤ) → above (neg_ℤ x) ≡ beneath x
neg_above (pos zero) = refl
neg_above (pos (suc a)) = refl
neg_above (negsuc a) = refl

neg_beneath : (x : ℤ) → beneath (neg_ℤ x) ≡ above x
neg_beneath (pos zero) = refl
neg_beneath (pos (suc a)) = refl
neg_beneath (negsuc a) = refl

neg_is : (x : ℤ) → Is (neg_ℤ x) (beneath x) (above x)
neg_is x = omega (arith, neg_above x, neg_beneath x)

mul_is : (x y : ℤ) → Is (x *ℤ y) (above x * above y + beneath x * beneath y) (above x * beneath y + beneath x * above y)
mul_is (pos a) (pos b) = omega arith
mul_is (pos a) (negsuc b) = omega (arith, neg_is (pos (a * suc b)))
mul_is (negsuc a) (pos b) = omega (arith, neg_is (pos (suc a * b)))
mul_is (negsuc a) (negsuc b) = omega arith

pub record Split (z : ℤ) : Type 0 where
  pub p : ℕ
  pub n : ℕ
  pub is : Is z p n

-- an integer as it stands; a natural number
abbrev pub int : (z : ℤ) → Split z
int z = record { p = above z; n = beneath z; is = omega arith }

abbrev pub nat : (a : ℕ) → Split (pos a)
nat a = record { p = a; n = 0; is = omega arith }

pub add_split : (x y : ℤ) (p n q m : ℕ) → Is x p n → Is y q m → Is (x +ℤ y) (p + q) (n + m)
add_split x y p n q m e f = omega (arith, add_is x y)

pub sub_split : (x y : ℤ) (p n q m : ℕ) → Is x p n → Is y q m → Is (x -ℤ y) (p + m) (n + q)
sub_split x y p n q m e f = omega (arith, add_is x (neg_ℤ y), neg_is y)

pub mul_split : (x y : ℤ) (p n q m : ℕ) → Is x p n → Is y q m → Is (x *ℤ y) (p * q + n * m) (p * m + n * q)
mul_split x y p n q m e f =
    omega (
      arith,
      mul_is x y,
      ap (λ (z : ℕ). z * above y) e,
      ap (λ (z : ℕ). z * beneath y) e,
      ap (λ (z : ℕ). p * z) f,
      ap (λ (z : ℕ). n * z) f,
    )

pub neg_split : (x : ℤ) (p n : ℕ) → Is x p n → Is (neg_ℤ x) n p
neg_split x p n e = omega (arith, neg_is x)

infixl 6 ◌⊕◌ ◌⊖◌
infixl 7 ◌⊗◌
abbrev pub ◌⊕◌ : {x y : ℤ} → Split x → Split y → Split (x +ℤ y)
◌⊕◌ {x} {y} a b = record { p = a.p + b.p; n = a.n + b.n; is = add_split x y a.p a.n b.p b.n a.is b.is }

abbrev pub ◌⊖◌ : {x y : ℤ} → Split x → Split y → Split (x -ℤ y)
◌⊖◌ {x} {y} a b = record { p = a.p + b.n; n = a.n + b.p; is = sub_split x y a.p a.n b.p b.n a.is b.is }

abbrev pub ◌⊗◌ : {x y : ℤ} → Split x → Split y → Split (x *ℤ y)
◌⊗◌ {x} {y} a b =
    record {
      p = a.p * b.p + a.n * b.n;
      n = a.p * b.n + a.n * b.p;
      is = mul_split x y a.p a.n b.p b.n a.is b.is;
    }

abbrev pub minus : {x : ℤ} → Split x → Split (neg_ℤ x)
minus {x} a = record { p = a.n; n = a.p; is = neg_split x a.p a.n a.is }

-- equal differences are equal integers
same : (x y : ℤ) → above x + beneath y ≡ above y + beneath x → x ≡ y
same (pos a) (pos b) e = ap pos (omega arith)
same (pos a) (negsuc b) e = absurd (omega arith)
same (negsuc a) (pos b) e = absurd (omega arith)
same (negsuc a) (negsuc b) e = ap negsuc (omega arith)

pub ring : {x y : ℤ} (a : Split x) (b : Split y) → a.p + b.n ≡ b.p + a.n → x ≡ y
ring {x} {y} a b e = same x y (omega (arith, a.is, b.is, e))

-- the laws that the library lacks
pub distrib : (x y z : ℤ) → x *ℤ (y +ℤ z) ≡ x *ℤ y +ℤ x *ℤ z
distrib x y z = ring (int x ⊗ (int y ⊕ int z)) (int x ⊗ int y ⊕ int x ⊗ int z) (omega arith)

pub distrib_right : (x y z : ℤ) → (y +ℤ z) *ℤ x ≡ y *ℤ x +ℤ z *ℤ x
distrib_right x y z = ring ((int y ⊕ int z) ⊗ int x) (int y ⊗ int x ⊕ int z ⊗ int x) (omega arith)

pub *ℤ-assoc : (x y z : ℤ) → x *ℤ y *ℤ z ≡ x *ℤ (y *ℤ z)
*ℤ-assoc x y z = ring (int x ⊗ int y ⊗ int z) (int x ⊗ (int y ⊗ int z)) (omega arith)

pub *ℤ-left : (x y z : ℤ) → x *ℤ (y *ℤ z) ≡ y *ℤ (x *ℤ z)
*ℤ-left x y z = ring (int x ⊗ (int y ⊗ int z)) (int y ⊗ (int x ⊗ int z)) (omega arith)

pub +ℤ-left : (x y z : ℤ) → x +ℤ (y +ℤ z) ≡ y +ℤ (x +ℤ z)
+ℤ-left x y z = ring (int x ⊕ (int y ⊕ int z)) (int y ⊕ (int x ⊕ int z)) (omega arith)

pub *ℤ-neg : (x y : ℤ) → x *ℤ neg_ℤ y ≡ neg_ℤ (x *ℤ y)
*ℤ-neg x y = ring (int x ⊗ minus (int y)) (minus (int x ⊗ int y)) (omega arith)

pub neg-*ℤ : (x y : ℤ) → neg_ℤ x *ℤ y ≡ neg_ℤ (x *ℤ y)
neg-*ℤ x y = ring (minus (int x) ⊗ int y) (minus (int x ⊗ int y)) (omega arith)

-- for `simp`: products multiplied out, sums and products in one order
pub ruleset sums =
    (distrib, distrib_right, *ℤ-assoc, *ℤ-left, *ℤ_comm, *ℤ-neg, neg-*ℤ, neg_ℤ-+ℤ, neg_ℤ-neg_ℤ, +ℤ_assoc, +ℤ_comm, +ℤ-left)

-- positive integers: a combination of two is positive, and so is what has it for a multiple
pub between_positive : (x y z : ℤ) (m n k : ℕ) → 0 < m + n → pos k *ℤ z ≡ pos m *ℤ x +ℤ pos n *ℤ y → pos 0 <ℤ x → pos 0 <ℤ y → pos 0 <ℤ z
between_positive (pos zero) y z m n k h e s t = absurd s.lt
between_positive (negsuc x) y z m n k h e s t = absurd s.lt
between_positive (pos (suc x)) (pos zero) z m n k h e s t = absurd t.lt
between_positive (pos (suc x)) (negsuc y) z m n k h e s t = absurd t.lt
between_positive (pos (suc x)) (pos (suc y)) (pos z) m n k h e s t = lt_z_yes (lt→ltb 0 z (go z (ap above e)))
  where
    go : (z : ℕ) → k * z ≡ m * suc x + n * suc y → 0 < z
    go zero f = absurd (omega arith)
    go (suc z) f = omega arith
between_positive (pos (suc x)) (pos (suc y)) (negsuc z) m n k h e s t = absurd (omega (arith, ap above e, neg_above (pos (k * suc z))))
