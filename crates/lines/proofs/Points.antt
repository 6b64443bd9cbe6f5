-- Decoded points, and what follows the last point of a line. Assumes nothing.
use Prim.Native.Nat.{ℕ, ◌+◌, ◌*◌, ◌≤◌, ◌<◌}
use native.Mathlib.Nat.{mul-add}
use native.Mathlib.Omega.{arith}
use mathlib.Core.Path.{◌≡◌, refl, sym, ap, subst, ◌∙◌}
use Rattle.lattice.specs.declared.Sizes.{Sizes}
use Rattle.lattice.specs.declared.Kind.{Kind}
use Rattle.lattice.specs.declared.Kind.TheVariants.{Corner, Centre}
use Rattle.lattice.specs.declared.Site.{Site}
use Rattle.lattice.specs.Axis.{Axis, along_x, along_y, along_z, xyz}
use Rattle.lattice.specs.Counts.{Sized, grid, cells, points}
use Rattle.lattice.specs.Point.{other, Inside, linear, number, kind_of, index_of}
use Rattle.lattice.specs.Rim.{rim_at, rim}
use Rattle.lattice.specs.inner.Site.{index, site_at, site_of, Sited}
use Rattle.lattice.proofs.Number.{number_lt, kind_number, index_number, number_of, inside_of}

index_at : (s : Sizes) (k : Kind) (i : Axis → ℕ) (a : Axis) → index (site_at s k i) a ≡ i a
unfolding site_at
index_at s k i along_x = refl
index_at s k i along_y = refl
index_at s k i along_z = refl

-- the site of a number is that of its point
pub site_number : (s : Sizes) (k : Kind) (i : Axis → ℕ) → Inside s k i → site_of s (number s k i) ≡ site_at s k i
site_number s k i h = λ t. site_at s (kind_number s k i h t) (λ a. index_number s k i h a t)

-- what is asked of the kind and the indices of a decoded point is what is asked of its number
pub asked : {A : Type 0} (s : Sizes) (p : ℕ) {q : Site} → q ≡ site_of s p → (f : Kind → (Axis → ℕ) → A)
    → f q.kind (index q) ≡ f (kind_of s p) (index_of s p)
unfolding site_at
asked s p e f =
    ap (λ (r : Site). f r.kind (index r)) e ∙ (λ t. f (kind_of s p) (λ a. index_at s (kind_of s p) (index_of s p) a t))

-- q is the decoded point p
pub record Stands (s : Sizes) (p : ℕ) (q : Site) : Type 0 where
  pub is : q ≡ site_of s p
  pub below : p < points s

module _ {s : Sizes} {p : ℕ} {q : Site} (w : Stands s p q) where
  pub own_at : q.own ≡ p
  unfolding site_at
  own_at = ap (λ (r : Site). r.own) w.is ∙ number_of s p w.below

  -- the same from its own number
  pub own_site : q ≡ site_of s q.own
  own_site = w.is ∙ sym (ap (site_of s) own_at)

  pub own_below : q.own < points s
  own_below = subst (λ (n : ℕ). n < points s) (sym own_at) w.below

  pub rim_at_law : rim_at s q.kind (index q) ≡ rim s p
  rim_at_law = asked s p w.is (rim_at s)

  pub sited : Sited s q
  unfolding site_at linear
  sited = subst (Sited s) (sym w.is) (made (kind_of s p) (index_of s p) (inside_of s p w.below))
    where
      same : (k : Kind) (i : Axis → ℕ) → number s k i ≡ number s k (xyz (i along_x) (i along_y) (i along_z))
      same Corner i = refl
      same Centre i = refl

      made : (k : Kind) (i : Axis → ℕ) → Inside s k i → Sited s (site_at s k i)
      made k i h =
          record { x_in = h along_x; y_in = h along_y; z_in = h along_z; own_is = same k i; across_is = same (other k) i }

-- there is a point
pub points_some : (s : Sizes) → Sized s → 0 < points s
points_some s h = omega (arith, number_lt s Centre (xyz 0 0 0) first)
  where
    first : Inside s Centre (xyz 0 0 0)
    first along_x = omega arith
    first along_y = omega arith
    first along_z = omega arith

pub stands : (s : Sizes) (q : Site) → q ≡ site_of s q.own → q.own < points s → Stands s q.own q
stands s q e h = record { is = e; below = h }

-- one cell on from the end of a line: to the next line, to the next layer, past the end
module _ (m : Axis → ℕ) (x y z : ℕ) where
  next_line : x + 1 ≡ m along_x → linear m (xyz 0 (y + 1) z) ≡ linear m (xyz x y z) + 1
  unfolding linear
  next_line e =
      let w : y + 1 + m along_y * z ≡ y + m along_y * z + 1 = omega arith in
      omega (arith, ap (λ (n : ℕ). m along_x * n) w, mul-add (m along_x) (y + m along_y * z) 1)

  next_layer : x + 1 ≡ m along_x → y + 1 ≡ m along_y → linear m (xyz 0 0 (z + 1)) ≡ linear m (xyz x y z) + 1
  unfolding linear
  next_layer e f =
      let w : 0 + m along_y * (z + 1) ≡ y + m along_y * z + 1 = omega (arith, mul-add (m along_y) z 1) in
      omega (arith, ap (λ (n : ℕ). m along_x * n) w, mul-add (m along_x) (y + m along_y * z) 1)

  past : x + 1 ≡ m along_x → y + 1 ≡ m along_y → z + 1 ≡ m along_z → linear m (xyz x y z) + 1 ≡ cells m
  unfolding linear cells
  past e f g =
      let w : m along_y * m along_z ≡ y + m along_y * z + 1 = omega (arith, mul-add (m along_y) z 1, ap (λ (n : ℕ). m along_y * n) g) in
      omega (arith, ap (λ (n : ℕ). m along_x * n) w, mul-add (m along_x) (y + m along_y * z) 1)

-- the same for points
module _ (s : Sizes) (x y z : ℕ) where
  on_line : (k : Kind) → x + 1 ≡ grid s k along_x → number s k (xyz 0 (y + 1) z) ≡ number s k (xyz x y z) + 1
  on_line Corner e = next_line (grid s Corner) x y z e
  on_line Centre e = omega (arith, next_line (grid s Centre) x y z e)

  on_layer : (k : Kind) → x + 1 ≡ grid s k along_x → y + 1 ≡ grid s k along_y → number s k (xyz 0 0 (z + 1)) ≡ number s k (xyz x y z) + 1
  on_layer Corner e f = next_layer (grid s Corner) x y z e f
  on_layer Centre e f = omega (arith, next_layer (grid s Centre) x y z e f)

  -- the last corner is followed by the first centre, the last centre by nothing
  on_kind : (k : Kind) → x + 1 ≡ grid s k along_x → y + 1 ≡ grid s k along_y → z + 1 ≡ grid s k along_z
      → number s k (xyz x y z) + 1 < points s → number s Centre (xyz 0 0 0) ≡ number s k (xyz x y z) + 1
  unfolding points linear
  on_kind Corner e f g h = omega (arith, past (grid s Corner) x y z e f g, none)
    where
      none : s.nx * (0 + s.ny * 0) ≡ 0
      none = let w : 0 + s.ny * 0 ≡ 0 = omega arith in ap (λ (n : ℕ). s.nx * n) w ∙ omega arith
  on_kind Centre e f g h = absurd (omega (arith, past (grid s Centre) x y z e f g))

module _ (s : Sizes) (q : Site) (g : Sited s q) where
  at : (k : Kind) (i : Axis → ℕ) → Inside s k i → number s k i ≡ number s q.kind (index q) + 1 → site_at s k i ≡ site_of s (q.own + 1)
  at k i h e = sym (site_number s k i h) ∙ ap (site_of s) (e ∙ sym (ap (λ (n : ℕ). n + 1) g.own_is))

  inside : (k : Kind) {x y z : ℕ} → x < grid s k along_x → y < grid s k along_y → z < grid s k along_z → Inside s k (xyz x y z)
  inside k h i j along_x = h
  inside k h i j along_y = i
  inside k h i j along_z = j

  pub next_y : grid s q.kind along_x ≤ q.x + 1 → q.y + 1 < grid s q.kind along_y
      → site_at s q.kind (xyz 0 (q.y + 1) q.z) ≡ site_of s (q.own + 1)
  next_y l h =
      at q.kind (xyz 0 (q.y + 1) q.z) (inside q.kind (omega (arith, g.x_in)) h g.z_in)
      (on_line s q.x q.y q.z q.kind (omega (arith, g.x_in)))

  pub next_z : grid s q.kind along_x ≤ q.x + 1 → grid s q.kind along_y ≤ q.y + 1 → q.z + 1 < grid s q.kind along_z
      → site_at s q.kind (xyz 0 0 (q.z + 1)) ≡ site_of s (q.own + 1)
  next_z l m h =
      at q.kind (xyz 0 0 (q.z + 1)) (inside q.kind (omega (arith, g.x_in)) (omega (arith, g.y_in)) h)
      (on_layer s q.x q.y q.z q.kind (omega (arith, g.x_in)) (omega (arith, g.y_in)))

  pub next_kind : Sized s → grid s q.kind along_x ≤ q.x + 1 → grid s q.kind along_y ≤ q.y + 1 → grid s q.kind along_z ≤ q.z + 1
      → q.own + 1 < points s → site_at s Centre (xyz 0 0 0) ≡ site_of s (q.own + 1)
  next_kind b l m n h =
      at Centre (xyz 0 0 0) (inside Centre (omega arith) (omega arith) (omega arith))
      (on_kind s q.x q.y q.z q.kind (omega (arith, g.x_in)) (omega (arith, g.y_in)) (omega (arith, g.z_in))
      (subst (λ (k : ℕ). k + 1 < points s) g.own_is h))
