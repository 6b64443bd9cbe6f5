-- The numbering of the lattice points: ascending, one to one, and onto the numbers below N. Assumes nothing.
use Prim.Native.Nat.{ℕ, ◌+◌, ◌*◌, ◌-◌, ◌/◌, ◌%◌, ◌≤◌, ◌<◌}
use native.Mathlib.Nat.{mul-le-mul_left, mod-lt, mod-add-div, mul_comm, div-lt_iff_lt-mul}
use native.Mathlib.Omega.{arith}
use native.Mathlib.Decide.{dec_lt}
use mathlib.Core.Path.{◌≡◌, refl, sym, ap, ◌∙◌}
use mathlib.Core.Logic.{inl, inr}
use borrow.Author.Tests.{lt-ltb, le-ltb}
use Rattle.basics.proofs.Test.{lt_or}
use Rattle.lattice.specs.declared.Sizes.{Sizes}
use Rattle.lattice.specs.declared.Kind.{Kind}
use Rattle.lattice.specs.declared.Kind.TheVariants.{Corner, Centre}
use Rattle.lattice.specs.Axis.{Axis, along_x, along_y, along_z, xyz}
use Rattle.lattice.specs.Counts.{grid, cells, corners, points}
use Rattle.lattice.specs.Point.{Inside, linear, number, cell, kind_of, cell_of, index_of}

-- two digits, x + a y with x below a
digit_le : (a x y v w : ℕ) → x < a → v < a → x + a * y ≡ v + a * w → y ≤ w
digit_le a x y v w h k e = elim (lt_or w y) [ inl l ↦ absurd (omega (arith, mul-le-mul_left a l)) | inr l ↦ l ]

digits_inj : (a x y v w : ℕ) → x < a → v < a → x + a * y ≡ v + a * w → (x ≡ v) × (y ≡ w)
digits_inj a x y v w h k e =
    let d : y ≡ w = omega (arith, digit_le a x y v w h k e, digit_le a v w x y k h (sym e)) in
    (omega (arith, ap (λ (n : ℕ). a * n) d), d)

digits_lt : (a b x y : ℕ) → x < a → y < b → x + a * y < a * b
digits_lt a b x y h l = omega (arith, mul-le-mul_left a l)

-- the cells of a grid
abbrev pub In : (Axis → ℕ) → (Axis → ℕ) → Type 0
In m i = (a : Axis) → i a < m a

module _ (m : Axis → ℕ) where
  pub linear_inj : (i j : Axis → ℕ) → In m i → In m j → linear m i ≡ linear m j → (a : Axis) → i a ≡ j a
  unfolding linear
  linear_inj i j h k e = go
    where
      xs : (i along_x ≡ j along_x) × (i along_y + m along_y * i along_z ≡ j along_y + m along_y * j along_z)
      xs = digits_inj (m along_x) _ _ _ _ (h along_x) (k along_x) e

      ys : (i along_y ≡ j along_y) × (i along_z ≡ j along_z)
      ys = digits_inj (m along_y) _ _ _ _ (h along_y) (k along_y) xs.1

      go : (a : Axis) → i a ≡ j a
      go along_x = xs.0
      go along_y = ys.0
      go along_z = ys.1

  pub linear_lt : (i : Axis → ℕ) → In m i → linear m i < cells m
  unfolding linear cells
  linear_lt i h = digits_lt _ _ _ _ (h along_x) (digits_lt _ _ _ _ (h along_y) (h along_z))

  linear_le : (i j : Axis → ℕ) → ((a : Axis) → i a ≤ j a) → linear m i ≤ linear m j
  unfolding linear
  linear_le i j l = omega (arith, l along_x, mul-le-mul_left (m along_x) lines)
    where
      lines : i along_y + m along_y * i along_z ≤ j along_y + m along_y * j along_z
      lines = omega (arith, l along_y, mul-le-mul_left (m along_y) (l along_z))

  linear_asc : (i j : Axis → ℕ) → In m i → In m j → ((a : Axis) → i a ≤ j a) → (a : Axis) → i a < j a → linear m i < linear m j
  linear_asc i j h k l a less = omega (arith, linear_le i j l, apart)
    where
      apart : linear m i ≡ linear m j → ⊥
      apart e = omega (arith, linear_inj i j h k e a)

  -- a number's cell has that number
  linear_cell : (c : ℕ) → linear m (cell m c) ≡ c
  unfolding linear cell
  linear_cell c = rw (mod-add-div (c / m along_x) (m along_y)) (mod-add-div c (m along_x))

  pub cell_in : (c : ℕ) → c < cells m → In m (cell m c)
  unfolding cells cell
  cell_in c h = go
    where
      -- a product with something below it has no factor 0
      some : (a b d : ℕ) → d < a * b → 0 < a
      some a b d l = elim (lt_or 0 a) [ inl p ↦ p | inr p ↦ absurd (omega (arith, zero_times (omega (arith, p)))) ]
        where
          zero_times : a ≡ 0 → a * b ≡ 0
          zero_times e = ap (λ (n : ℕ). n * b) e ∙ omega arith

      line : c / m along_x < m along_y * m along_z
      line = (div-lt_iff_lt-mul (some _ _ c h)).1 (rw (mul_comm (m along_y * m along_z) (m along_x)) h)

      go : (a : Axis) → xyz (c % m along_x) (c / m along_x % m along_y) (c / m along_x / m along_y) a < m a
      go along_x = mod-lt c (some _ _ c h)
      go along_y = mod-lt (c / m along_x) (some _ _ _ line)
      go along_z = (div-lt_iff_lt-mul (some _ _ _ line)).1 (rw (mul_comm (m along_z) (m along_y)) line)

module _ (s : Sizes) where
  pub number_lt : (k : Kind) (i : Axis → ℕ) → Inside s k i → number s k i < points s
  unfolding points
  number_lt Corner i h = omega (arith, linear_lt (grid s Corner) i h)
  number_lt Centre i h = omega (arith, linear_lt (grid s Centre) i h)

  -- corners come first
  pub number_kinds : (i j : Axis → ℕ) → Inside s Corner i → number s Corner i < number s Centre j
  number_kinds i j h = omega (arith, linear_lt (grid s Corner) i h)

  -- one to one
  pub number_inj : (k l : Kind) (i j : Axis → ℕ) → Inside s k i → Inside s l j → number s k i ≡ number s l j → (k ≡ l) × ((a : Axis) → i a ≡ j a)
  number_inj Corner Corner i j h g e = (refl, linear_inj (grid s Corner) i j h g e)
  number_inj Corner Centre i j h g e = absurd (omega (arith, number_kinds i j h))
  number_inj Centre Corner i j h g e = absurd (omega (arith, number_kinds j i g))
  number_inj Centre Centre i j h g e = (refl, linear_inj (grid s Centre) i j h g (omega arith))

  -- ascending along every axis
  pub number_asc : (k : Kind) (i j : Axis → ℕ) → Inside s k i → Inside s k j
      → ((a : Axis) → i a ≤ j a) → (a : Axis) → i a < j a → number s k i < number s k j
  number_asc Corner i j h g l a less = linear_asc (grid s Corner) i j h g l a less
  number_asc Centre i j h g l a less = omega (arith, linear_asc (grid s Centre) i j h g l a less)

  -- the kind by the number
  pub kind_low : (p : ℕ) → p < corners s → kind_of s p ≡ Corner
  unfolding kind_of
  kind_low p h = simp (lt-ltb _ _ h)

  pub kind_high : (p : ℕ) → corners s ≤ p → kind_of s p ≡ Centre
  unfolding kind_of
  kind_high p h = simp (le-ltb _ _ h)

  pub kind_number : (k : Kind) (i : Axis → ℕ) → Inside s k i → kind_of s (number s k i) ≡ k
  kind_number Corner i h = kind_low (linear (grid s Corner) i) (linear_lt (grid s Corner) i h)
  kind_number Centre i h = kind_high (corners s + linear (grid s Centre) i) (omega arith)

  -- a point's number, and back
  number_cell : (k : Kind) (p : ℕ) → kind_of s p ≡ k → p < points s → (number s k (cell_of s k p) ≡ p) × Inside s k (cell_of s k p)
  unfolding points
  number_cell k p e h = go k e (dec_lt p (corners s))
    where
      clash : Corner ≡ Centre → ◌≡◌ {A = ℕ} 0 1
      clash e = cc

      go : (k : Kind) → kind_of s p ≡ k → Dec (p < corners s) → (number s k (cell_of s k p) ≡ p) × Inside s k (cell_of s k p)
      go Corner e (yes l) = (linear_cell (grid s Corner) p, cell_in (grid s Corner) p l)
      go Corner e (no l) = absurd (omega (arith, clash (sym e ∙ kind_high p (omega (arith, l)))))
      go Centre e (yes l) = absurd (omega (arith, clash (sym (kind_low p l) ∙ e)))
      go Centre e (no l) = (omega (arith, linear_cell (grid s Centre) (p - corners s), l), cell_in (grid s Centre) (p - corners s) (omega (arith, l)))

  pub number_of : (p : ℕ) → p < points s → number s (kind_of s p) (index_of s p) ≡ p
  number_of p h = (number_cell (kind_of s p) p refl h).0

  pub inside_of : (p : ℕ) → p < points s → Inside s (kind_of s p) (index_of s p)
  inside_of p h = (number_cell (kind_of s p) p refl h).1

  pub index_number : (k : Kind) (i : Axis → ℕ) → Inside s k i → (a : Axis) → index_of s (number s k i) a ≡ i a
  index_number k i h =
      let p = number s k i in
      let l = number_lt k i h in
      (number_inj (kind_of s p) k (index_of s p) i (inside_of p l) h (number_of p l)).1
