-- Decoded points: the laws that `locate`, `site_at` and `neighbour` are tied to. Assumes nothing.
use Prim.Native.Nat.{ℕ, suc, zero, ◌+◌, ◌*◌, ◌-◌, ◌/◌, ◌%◌, ◌≤◌, ◌<◌}
use native.Mathlib.Nat.{mul-add}
use native.Mathlib.Omega.{arith}
use mathlib.Core.Path.{◌≡◌, refl, ap}
use mathlib.Core.Logic.{◌⊎◌, inl, inr}
use mathlib.Core.Bool.{Bool, true, false}
use borrow.Author.Tests.{lt-ltb, le-ltb}
use Rattle.basics.proofs.Test.{true_T, All₃}
use Rattle.lattice.specs.declared.Sizes.{Sizes}
use Rattle.lattice.specs.declared.Kind.{Kind}
use Rattle.lattice.specs.declared.Kind.TheVariants.{Corner, Centre}
use Rattle.lattice.specs.declared.Site.{Site}
use Rattle.lattice.specs.declared.Shift.{Shift}
use Rattle.lattice.specs.Axis.{Axis, along_x, along_y, along_z, xyz}
use Rattle.lattice.specs.Counts.{Sized, largest, widest, along, grid, cells, corners}
use Rattle.lattice.specs.Point.{doubled, other, Inside, linear, number, cell}
use Rattle.lattice.specs.Direction.{long, Code, is_start, direction_of, step}
use Rattle.lattice.specs.Edge.{stays_in, exists, far_kind, far_index}
use Rattle.lattice.specs.inner.Site.{most, odd_of, Sited, index, site_at, site_of, stays_by}
use Rattle.lattice.specs.inner.Site.{shift_along, turned_shift, shift_of, SmallShift, risen, fallen, Stride}
use Rattle.lattice.proofs.Number.{cell_in, kind_low, kind_high}
use Rattle.lattice.proofs.Codes.{one_way, long_even, short_one, up_small, down_small}
use Rattle.lattice.proofs.Bounds.{linear_small, corners_small}
use Rattle.lattice.proofs.Sized.{size_high}
use Rattle.lattice.proofs.Edge.{stays}
pub use Rattle.lattice.proofs.Edge.{near_yes, near_no}

-- a site from its parts
pub site_is : (s : Sizes) (k : Kind) (x y z own across : ℕ) → own ≡ number s k (xyz x y z) → across ≡ number s (other k) (xyz x y z)
    → record { kind = k; x = x; y = y; z = z; own = own; across = across } ≡ site_at s k (xyz x y z)
unfolding site_at
site_is s k x y z own across e f = λ i. record { kind = k; x = x; y = y; z = z; own = e i; across = f i }

module _ (s : Sizes) (h : Sized s) where
  -- the indices of a corner and of a centre are at most the largest size
  pub corner_small : (p : ℕ) → p < corners s
      → (p % (s.nx + 1) ≤ largest) × (p / (s.nx + 1) % (s.ny + 1) ≤ largest) × (p / (s.nx + 1) / (s.ny + 1) ≤ largest)
  unfolding cell
  corner_small p l =
      let i = cell_in (grid s Corner) p l in
      (omega (arith, i along_x), omega (arith, i along_y), omega (arith, i along_z))

  pub centre_small : (c : ℕ) → c < cells (grid s Centre) → (c % s.nx ≤ largest) × (c / s.nx % s.ny ≤ largest) × (c / s.nx / s.ny ≤ largest)
  unfolding cell
  centre_small c l =
      let i = cell_in (grid s Centre) c l in
      (omega (arith, i along_x), omega (arith, i along_y), omega (arith, i along_z))

-- the site of a number, by its kind
pub site_low : (s : Sizes) (p : ℕ) → p < corners s → site_of s p ≡ site_at s Corner (cell (grid s Corner) p)
site_low s p h = rw (kind_low s p h) refl

pub site_high : (s : Sizes) (p first : ℕ) → first ≡ corners s → first ≤ p → site_of s p ≡ site_at s Centre (cell (grid s Centre) (p - first))
site_high s p first e h = rw (kind_high s p (rw e at h), e) refl

-- a code's step is its direction's, turned round at the end
pub shift_start : (c : ℕ) → is_start c ≡ true → shift_of c ≡ shift_along (direction_of c)
unfolding shift_of shift_along step
shift_start c h = simp h

pub shift_end : (c : ℕ) → is_start c ≡ false → shift_of c ≡ turned_shift (shift_along (direction_of c))
unfolding shift_of shift_along step
shift_end c h = simp h

-- by cases on a direction
pub by_direction : (P : ℕ → Type 0) → P 0 → P 1 → P 2 → P 3 → P 4 → P 5 → P 6 → (d : ℕ) → d < 7 → P d
by_direction P a b c d e f g zero h = a
by_direction P a b c d e f g (suc zero) h = b
by_direction P a b c d e f g (suc (suc zero)) h = c
by_direction P a b c d e f g (suc (suc (suc zero))) h = d
by_direction P a b c d e f g (suc (suc (suc (suc zero)))) h = e
by_direction P a b c d e f g (suc (suc (suc (suc (suc zero))))) h = f
by_direction P a b c d e f g (suc (suc (suc (suc (suc (suc zero)))))) h = g
by_direction P a b c d e f g (suc (suc (suc (suc (suc (suc (suc n))))))) h = absurd (omega arith)

pub doubled_odd : (k : Kind) (i : ℕ) → doubled k i ≡ 2 * i + odd_of k
doubled_odd Corner i = omega arith
doubled_odd Centre i = refl

-- numbers in a grid add up
digits_add : (a x y v w x' y' v' w' : ℕ) → x + v ≡ x' + v' → y + w ≡ y' + w'
    → x + a * y + (v + a * w) ≡ x' + a * y' + (v' + a * w')
digits_add a x y v w x' y' v' w' e f = omega (arith, mul-add a y w, mul-add a y' w', ap (λ (n : ℕ). a * n) f)

pub linear_add : (m i j up down : Axis → ℕ) → ((a : Axis) → j a + down a ≡ i a + up a)
    → linear m j + linear m down ≡ linear m i + linear m up
unfolding linear
linear_add m i j up down h =
    digits_add (m along_x) _ _ _ _ _ _ _ _ (h along_x) (digits_add (m along_y) _ _ _ _ _ _ _ _ (h along_y) (h along_z))

pub number_add : (s : Sizes) (k : Kind) (i j up down : Axis → ℕ) → ((a : Axis) → j a + down a ≡ i a + up a)
    → number s k j + linear (grid s k) down ≡ number s k i + linear (grid s k) up
number_add s Corner i j up down h = linear_add (grid s Corner) i j up down h
number_add s Centre i j up down h = omega (arith, linear_add (grid s Centre) i j up down h)

-- how many cells a step leads up or down along an axis
pub far_index_law : (k : Kind) (i : Axis → ℕ) (c : ℕ) → Code c → (a : Axis) → (step c a).down ≤ doubled k (i a)
    → far_index k i c a + ((step c a).down + 1 - odd_of k) / 2 ≡ i a + ((step c a).up + odd_of k) / 2
unfolding far_index
far_index_law k i c h a low = go (long (direction_of c)) refl (one_way c h a) k low
  where
    go : (b : Bool) → long (direction_of c) ≡ b → ((step c a).up ≡ 0) ⊎ ((step c a).down ≡ 0) → (k : Kind) → (step c a).down ≤ doubled k (i a)
        → (doubled k (i a) + (step c a).up - (step c a).down) / 2 + ((step c a).down + 1 - odd_of k) / 2 ≡ i a + ((step c a).up + odd_of k) / 2
    go true e (inl z) Corner l = omega (arith, long_even c h a e)
    go true e (inr z) Corner l = omega (arith, long_even c h a e)
    go true e (inl z) Centre l = omega (arith, long_even c h a e)
    go true e (inr z) Centre l = omega (arith, long_even c h a e)
    go false e w Corner l = omega (arith, short_one c h a e)
    go false e w Centre l = omega (arith, short_one c h a e)

-- the six numbers of a code are small, and so are the indices of a site
pub shift_small : (c : ℕ) → Code c → (t : Shift) → t ≡ shift_of c → SmallShift t
unfolding shift_of
shift_small c h t e = rw e (up along_x, up along_y, up along_z, down along_x, down along_y, down along_z)
  where
    up : (a : Axis) → (step c a).up ≤ 2
    up = up_small c h

    down : (a : Axis) → (step c a).down ≤ 2
    down = down_small c h

abbrev pub SmallAt : Site → ℕ → Type 0
SmallAt q odd = (2 * q.x + odd ≤ 128) × (2 * q.y + odd ≤ 128) × (2 * q.z + odd ≤ 128)

module _ (s : Sizes) (q : Site) (h : Sized s) (g : Sited s q) where
  pub site_inside : Inside s q.kind (index q)
  site_inside along_x = g.x_in
  site_inside along_y = g.y_in
  site_inside along_z = g.z_in

  index_small : (a : Axis) → 2 * index q a + odd_of q.kind ≤ 128
  index_small a = go q.kind (site_inside a)
    where
      go : (k : Kind) → index q a < grid s k a → 2 * index q a + odd_of k ≤ 128
      go Corner l = omega (arith, l, size_high s h a)
      go Centre l = omega (arith, l, size_high s h a)

  pub site_small : SmallAt q (odd_of q.kind)
  site_small = (index_small along_x, index_small along_y, index_small along_z)

  pub small_at : (odd : ℕ) → odd ≡ odd_of q.kind → SmallAt q odd
  small_at odd e = rw e site_small

  pub numbers_small : (q.own ≤ most) × (q.across ≤ most)
  unfolding linear
  numbers_small = (rw g.own_is (below q.kind), rw g.across_is (below (other q.kind)))
    where
      cell_small : (a b : ℕ) → a ≤ widest → b ≤ widest → q.x + a * (q.y + b * q.z) ≤ 274624
      cell_small a b ha hb =
          let i = site_small in
          linear_small a b q.x q.y q.z ha hb (omega (arith, i.0)) (omega (arith, i.1)) (omega (arith, i.2))

      below : (k : Kind) → number s k (index q) ≤ most
      below Corner = omega (arith, cell_small (s.nx + 1) (s.ny + 1) (omega arith) (omega arith))
      below Centre = omega (arith, corners_small s h, cell_small s.nx s.ny (omega arith) (omega arith))

-- the three tests of an edge, as the code makes them
pub edge_tests : (s : Sizes) (q : Site) (c odd : ℕ) (t : Shift) → t ≡ shift_of c → odd ≡ odd_of q.kind
    → All₃ (exists s q.kind (index q) c)
    (stays_by s.nx (2 * q.x + odd) t.ux t.dx)
    (stays_by s.ny (2 * q.y + odd) t.uy t.dy)
    (stays_by s.nz (2 * q.z + odd) t.uz t.dz)
unfolding stays_in shift_of
edge_tests s q c odd t e f =
    record { is = rw (e, f, doubled_odd q.kind q.x, doubled_odd q.kind q.y, doubled_odd q.kind q.z) refl }

pub far_long : (k : Kind) (c : ℕ) → direction_of c < 3 → far_kind k c ≡ k
unfolding far_kind long
far_long k c h = simp (lt-ltb _ _ h)

pub far_short : (k : Kind) (c : ℕ) → 3 ≤ direction_of c → far_kind k c ≡ other k
unfolding far_kind long
far_short k c h = simp (le-ltb _ _ h)

-- a grid, without asking for the kind
pub own_grid : (k : Kind) (n odd : ℕ) → odd ≡ odd_of k → n + 1 - odd ≡ along k n
own_grid Corner n odd e = rw e (omega arith)
own_grid Centre n odd e = rw e (omega arith)

pub other_grid : (k : Kind) (n odd : ℕ) → odd ≡ odd_of k → n + odd ≡ along (other k) n
other_grid Corner n odd e = rw e (omega arith)
other_grid Centre n odd e = rw e refl

pub odd_small : (k : Kind) → odd_of k ≤ 1
odd_small Corner = omega arith
odd_small Centre = omega arith

-- an edge that exists, and what the code holds of it: the parity of the point's doubled coordinates, and the step
pub record Going (s : Sizes) (q : Site) (c odd : ℕ) (t : Shift) : Type 0 where
  pub sized : Sized s
  pub sited : Sited s q
  pub code : Code c
  pub there : exists s q.kind (index q) c ≡ true
  pub odd_is : odd ≡ odd_of q.kind
  pub shift_is : t ≡ shift_of c

-- a stride that may be made, and that leads to the far end
pub record Reaches (s : Sizes) (q : Site) (c a b base odd : ℕ) (t : Shift) : Type 0 where
  pub stride : Stride a b base odd t
  pub lands : number s (far_kind q.kind c) (far_index q.kind (index q) c) + fallen a b odd t ≡ base + risen a b odd t

module _ {s : Sizes} {q : Site} {c odd : ℕ} {t : Shift} (g : Going s q c odd t) where
  -- for the grid and the number of the point's indices in the far end's kind
  reaches : {a b base : ℕ} (k : Kind) → far_kind q.kind c ≡ k → a ≡ along k s.nx → b ≡ along k s.ny
      → base ≡ number s k (index q) → base ≤ most → Reaches s q c a b base odd t
  unfolding risen fallen shift_of linear
  reaches {a} {b} {base} k e ea eb en small =
      record {
        stride =
            record {
              a_small = rw ea (wide k s.nx g.sized.x_high);
              b_small = rw eb (wide k s.ny g.sized.y_high);
              base_small = small;
              odd_small = rw g.odd_is (odd_small q.kind);
              steps_small = shift_small c g.code t g.shift_is;
              ends = omega (arith, lands);
            };
        lands = lands;
      }
    where
      wide : (k : Kind) (n : ℕ) → n ≤ largest → along k n ≤ widest
      wide Corner n l = omega arith
      wide Centre n l = omega arith

      lands : number s (far_kind q.kind c) (far_index q.kind (index q) c) + fallen a b odd t ≡ base + risen a b odd t
      lands =
          rw (e, ea, eb, en, g.odd_is, g.shift_is)
          (number_add s k (index q) (far_index q.kind (index q) c)
          (λ a. ((step c a).up + odd_of q.kind) / 2) (λ a. ((step c a).down + 1 - odd_of q.kind) / 2)
          (λ a. far_index_law q.kind (index q) c g.code a (stays s q.kind (index q) c (true_T _ g.there) a).0))

  -- a long edge stays in the point's own grid, a short one leads to the other
  pub reaches_long : direction_of c < 3 → Reaches s q c (s.nx + 1 - odd) (s.ny + 1 - odd) q.own odd t
  reaches_long l =
      reaches q.kind (far_long q.kind c l) (own_grid q.kind _ _ g.odd_is) (own_grid q.kind _ _ g.odd_is)
      g.sited.own_is (numbers_small s q g.sized g.sited).0

  pub reaches_short : 3 ≤ direction_of c → Reaches s q c (s.nx + odd) (s.ny + odd) q.across odd t
  reaches_short l =
      reaches (other q.kind) (far_short q.kind c l)
      (other_grid q.kind _ _ g.odd_is) (other_grid q.kind _ _ g.odd_is)
      g.sited.across_is (numbers_small s q g.sized g.sited).1
