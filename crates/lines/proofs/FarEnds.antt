-- The far ends of a point's edges, by strides: those of the seven edges that start there and of the seven that end there.
-- Assumes nothing.
use Prim.Native.Nat.{ℕ, ◌+◌, ◌*◌, ◌-◌, ◌/◌, ◌≤◌, ◌<◌}
use native.Mathlib.Nat.{mul-add, add-mul, mul-le-mul, mul-le-mul_left, le-mul_of_pos_right}
use native.Mathlib.Omega.{arith}
use mathlib.Core.Path.{◌≡◌, refl, sym, ap, ◌∙◌}
use mathlib.Core.Bool.{Bool, true, false}
use mathlib.Core.List.{List}
use lib.ListN.{get_or}
use Rattle.std.proofs.Common.{Some}
use Rattle.basics.proofs.Test.{true_T}
use Rattle.lattice.specs.declared.Sizes.{Sizes}
use Rattle.lattice.specs.declared.Kind.{Kind}
use Rattle.lattice.specs.declared.Kind.TheVariants.{Corner, Centre}
use Rattle.lattice.specs.declared.Site.{Site}
use Rattle.lattice.specs.Axis.{Axis}
use Rattle.lattice.specs.Counts.{Sized, grid, cells}
use Rattle.lattice.specs.Point.{other, linear, number}
use Rattle.lattice.specs.Direction.{Code, directions, direction, long, is_start, direction_of, step}
use Rattle.lattice.specs.Edge.{exists, far_kind, far_index, near}
use Rattle.lattice.specs.inner.Site.{Sited, index, odd_of, most}
use Rattle.lattice.proofs.Edge.{stays}
use Rattle.lattice.proofs.Sites.{site_small, by_direction, number_add, far_index_law, near_yes, near_no, numbers_small}
use Rattle.lines.specs.inner.Lines.{line_at}
use Rattle.lines.specs.inner.Strides.{ends_of, ends_at, starts_back, starts_of, starts_at, range_most}

-- an edge leads some cells up and some down in the grid of its far end
strides : (s : Sizes) (k : Kind) (i : Axis → ℕ) (c e : ℕ) → Code c → near s k i c ≡ Some e
    → e + linear (grid s (far_kind k c)) (λ a. ((step c a).down + 1 - odd_of k) / 2)
    ≡ number s (far_kind k c) i + linear (grid s (far_kind k c)) (λ a. ((step c a).up + odd_of k) / 2)
strides s k i c e h n = go (exists s k i c) refl
  where
    go : (t : Bool) → exists s k i c ≡ t
        → e + linear (grid s (far_kind k c)) (λ a. ((step c a).down + 1 - odd_of k) / 2)
        ≡ number s (far_kind k c) i + linear (grid s (far_kind k c)) (λ a. ((step c a).up + odd_of k) / 2)
    go true x =
        let w : e ≡ number s (far_kind k c) (far_index k i c) = cc (near_yes s k i c x) in
        rw w (number_add s (far_kind k c) i (far_index k i c) _ _ (λ a. far_index_law k i c h a (stays s k i c (true_T _ x) a).0))
    go false x = let z : ◌≡◌ {A = ℕ} 0 1 = cc (near_no s k i c x) in absurd (omega arith)

ending : (d : ℕ) → d < 7 → Code (d + 8)
ending d h = record { low = omega arith; high = omega arith }

-- the seven directions that end at a corner, and at a centre
module _ (s : Sizes) (i : Axis → ℕ) (own low : ℕ) where
  pub corner_starts : own ≡ number s Corner i → low + (s.nx * s.ny + (s.nx + 1)) ≡ number s Centre i → (d : ℕ) → d < 7
      → (e : ℕ) → near s Corner i (d + 8) ≡ Some e → get_or (starts_back (s.nx + 1) ((s.nx + 1) * (s.ny + 1)) s.nx own low) d 0 ≡ e
  unfolding starts_back linear far_kind long direction_of step is_start direction directions
  corner_starts o l =
      by_direction (λ d. (e : ℕ) → near s Corner i (d + 8) ≡ Some e → get_or (starts_back (s.nx + 1) ((s.nx + 1) * (s.ny + 1)) s.nx own low) d 0 ≡ e)
      (λ e n. omega (arith, strides s Corner i 8 e (ending 0 (omega arith)) n))
      (λ e n. omega (arith, strides s Corner i 9 e (ending 1 (omega arith)) n))
      (λ e n. omega (arith, strides s Corner i 10 e (ending 2 (omega arith)) n))
      (λ e n. omega (arith, strides s Corner i 11 e (ending 3 (omega arith)) n))
      (λ e n. omega (arith, strides s Corner i 12 e (ending 4 (omega arith)) n))
      (λ e n. omega (arith, strides s Corner i 13 e (ending 5 (omega arith)) n))
      (λ e n. omega (arith, strides s Corner i 14 e (ending 6 (omega arith)) n))

  pub centre_starts : own ≡ number s Centre i → low ≡ number s Corner i → (d : ℕ) → d < 7
      → (e : ℕ) → near s Centre i (d + 8) ≡ Some e → get_or (starts_back s.nx (s.nx * s.ny) (s.nx + 1) own low) d 0 ≡ e
  unfolding starts_back linear far_kind long direction_of step is_start direction directions
  centre_starts o l =
      by_direction (λ d. (e : ℕ) → near s Centre i (d + 8) ≡ Some e → get_or (starts_back s.nx (s.nx * s.ny) (s.nx + 1) own low) d 0 ≡ e)
      (λ e n. omega (arith, strides s Centre i 8 e (ending 0 (omega arith)) n))
      (λ e n. omega (arith, strides s Centre i 9 e (ending 1 (omega arith)) n))
      (λ e n. omega (arith, strides s Centre i 10 e (ending 2 (omega arith)) n))
      (λ e n. omega (arith, strides s Centre i 11 e (ending 3 (omega arith)) n))
      (λ e n. omega (arith, strides s Centre i 12 e (ending 4 (omega arith)) n))
      (λ e n. omega (arith, strides s Centre i 13 e (ending 5 (omega arith)) n))
      (λ e n. omega (arith, strides s Centre i 14 e (ending 6 (omega arith)) n))

starting : (d : ℕ) → d < 7 → Code (d + 1)
starting d h = record { low = omega arith; high = omega arith }

-- the seven directions that start at a corner, and at a centre
module _ (s : Sizes) (q : Site) where
  corner_ends : q.own ≡ number s Corner (index q) → q.across ≡ number s Centre (index q) → (d : ℕ) → d < 7
      → (e : ℕ) → near s Corner (index q) (d + 1) ≡ Some e → get_or (ends_of Corner s q) d 0 ≡ e
  unfolding linear far_kind long direction_of step is_start direction directions
  corner_ends o l =
      by_direction (λ d. (e : ℕ) → near s Corner (index q) (d + 1) ≡ Some e → get_or (ends_of Corner s q) d 0 ≡ e)
      (λ e n. omega (arith, strides s Corner (index q) 1 e (starting 0 (omega arith)) n))
      (λ e n. omega (arith, strides s Corner (index q) 2 e (starting 1 (omega arith)) n))
      (λ e n. omega (arith, strides s Corner (index q) 3 e (starting 2 (omega arith)) n))
      (λ e n. omega (arith, strides s Corner (index q) 4 e (starting 3 (omega arith)) n))
      (λ e n. omega (arith, strides s Corner (index q) 5 e (starting 4 (omega arith)) n))
      (λ e n. omega (arith, strides s Corner (index q) 6 e (starting 5 (omega arith)) n))
      (λ e n. omega (arith, strides s Corner (index q) 7 e (starting 6 (omega arith)) n))

  centre_ends : q.own ≡ number s Centre (index q) → q.across ≡ number s Corner (index q) → (d : ℕ) → d < 7
      → (e : ℕ) → near s Centre (index q) (d + 1) ≡ Some e → get_or (ends_of Centre s q) d 0 ≡ e
  unfolding linear far_kind long direction_of step is_start direction directions
  centre_ends o l =
      by_direction (λ d. (e : ℕ) → near s Centre (index q) (d + 1) ≡ Some e → get_or (ends_of Centre s q) d 0 ≡ e)
      (λ e n. omega (arith, strides s Centre (index q) 1 e (starting 0 (omega arith)) n))
      (λ e n. omega (arith, strides s Centre (index q) 2 e (starting 1 (omega arith)) n))
      (λ e n. omega (arith, strides s Centre (index q) 3 e (starting 2 (omega arith)) n))
      (λ e n. omega (arith, strides s Centre (index q) 4 e (starting 3 (omega arith)) n, mul-add (s.nx + 1) 1 (s.ny + 1)))
      (λ e n. omega (arith, strides s Centre (index q) 5 e (starting 4 (omega arith)) n, mul-add (s.nx + 1) 1 (s.ny + 1)))
      (λ e n. omega (arith, strides s Centre (index q) 6 e (starting 5 (omega arith)) n))
      (λ e n. omega (arith, strides s Centre (index q) 7 e (starting 6 (omega arith)) n))

back_small : (line layer wide own low d : ℕ) → own ≤ most → low ≤ most → wide ≤ 65 → d < 7
    → get_or (starts_back line layer wide own low) d 0 ≤ range_most
unfolding starts_back
back_small line layer wide own low d h g w =
    by_direction (λ d. get_or (starts_back line layer wide own low) d 0 ≤ range_most)
    (omega arith) (omega arith) (omega arith) (omega arith) (omega arith) (omega arith) (omega arith) d

-- every centre's number is past what a step down from it by one along every axis takes away
pub centre_high : (s : Sizes) (i : Axis → ℕ) → s.nx * s.ny + (s.nx + 1) ≤ number s Centre i
unfolding cells
centre_high s i =
    omega (
      arith,
      add-mul s.nx 1 (s.ny + 1),
      mul-add s.nx s.ny 1,
      mul-le-mul_left (s.nx + 1) (le-mul_of_pos_right {m = s.nz + 1} (s.ny + 1) (omega arith)),
    )

-- the same from a site, by its kind
module _ (s : Sizes) (q : Site) (g : Sited s q) where
  own_as : (k : Kind) → q.kind ≡ k → q.own ≡ number s k (index q)
  own_as k e = g.own_is ∙ ap (λ (l : Kind). number s l (index q)) e

  across_as : (k : Kind) → q.kind ≡ k → q.across ≡ number s (other k) (index q)
  across_as k e = g.across_is ∙ ap (λ (l : Kind). number s (other l) (index q)) e

  near_as : (k : Kind) → q.kind ≡ k → (c e : ℕ) → near s q.kind (index q) c ≡ Some e → near s k (index q) c ≡ Some e
  near_as k h c e n = ap (λ (l : Kind). near s l (index q) c) (sym h) ∙ n

  pub low_fits : q.kind ≡ Corner → s.nx * s.ny + (s.nx + 1) ≤ q.across
  low_fits k = rw (across_as Corner k) (centre_high s (index q))

  -- so does a stride of a line
  pub line_fits_across : q.kind ≡ Corner → s.nx + 1 ≤ q.across
  line_fits_across k = omega (arith, low_fits k)

  -- the ends, by direction
  pub end_is : (d : ℕ) → d < 7 → (e : ℕ) → near s q.kind (index q) (d + 1) ≡ Some e → get_or (ends_at s q) d 0 ≡ e
  unfolding ends_at
  end_is d h e n = go q.kind refl
    where
      go : (k : Kind) → q.kind ≡ k → get_or (ends_of k s q) d 0 ≡ e
      go Corner k = corner_ends s q (own_as Corner k) (across_as Corner k) d h e (near_as Corner k (d + 1) e n)
      go Centre k = centre_ends s q (own_as Centre k) (across_as Centre k) d h e (near_as Centre k (d + 1) e n)

  -- the starts, by direction
  pub start_is : (d : ℕ) → d < 7 → (e : ℕ) → near s q.kind (index q) (d + 8) ≡ Some e → get_or (starts_at s q) d 0 ≡ e
  unfolding starts_at
  start_is d h e n = go q.kind refl
    where
      go : (k : Kind) → q.kind ≡ k → get_or (starts_of k s q) d 0 ≡ e
      go Corner k =
          corner_starts s (index q) q.own _ (own_as Corner k) (omega (arith, across_as Corner k, low_fits k)) d h e (near_as Corner k (d + 8) e n)
      go Centre k = centre_starts s (index q) q.own _ (own_as Centre k) (across_as Centre k) d h e (near_as Centre k (d + 8) e n)

  pub start_small : Sized s → (back : List ℕ) → back ≡ starts_at s q → (d : ℕ) → d < 7 → get_or back d 0 ≤ range_most
  unfolding starts_at
  start_small z back b d h = rw b (go q.kind)
    where
      m : (q.own ≤ most) × (q.across ≤ most)
      m = let n = numbers_small s q z g in (n.0, n.1)

      go : (k : Kind) → get_or (starts_of k s q) d 0 ≤ range_most
      go Corner = back_small _ _ _ _ _ d m.0 (omega (arith, m.1)) (omega (arith, z.x_high)) h
      go Centre = back_small _ _ _ _ _ d m.0 m.1 (omega (arith, z.x_high)) h

-- the starts as one definition: where those of neighbours along a line stand
module _ (s : Sizes) (q : Site) where
  pub start_first : get_or (starts_at s q) 0 0 ≡ q.own - 1
  unfolding starts_at starts_back
  start_first = go q.kind
    where
      go : (k : Kind) → get_or (starts_of k s q) 0 0 ≡ q.own - 1
      go Corner = refl
      go Centre = refl

  pub start_fourth : get_or (starts_at s q) 4 0 ≡ get_or (starts_at s q) 3 0 + 1
  unfolding starts_at starts_back
  start_fourth = go q.kind
    where
      go : (k : Kind) → get_or (starts_of k s q) 4 0 ≡ get_or (starts_of k s q) 3 0 + 1
      go Corner = refl
      go Centre = refl

  pub start_sixth : get_or (starts_at s q) 6 0 ≡ get_or (starts_at s q) 5 0 + 1
  unfolding starts_at starts_back
  start_sixth = go q.kind
    where
      go : (k : Kind) → get_or (starts_of k s q) 6 0 ≡ get_or (starts_of k s q) 5 0 + 1
      go Corner = refl
      go Centre = refl

-- x numbers further along both grids
back_within : (line layer wide own low high x d : ℕ) → high ≡ low + x → d < 7
    → (get_or (starts_back line layer wide own low) d 0 ≤ get_or (starts_back line layer wide (own + x) high) d 0)
    × (get_or (starts_back line layer wide (own + x) high) d 0 ≤ get_or (starts_back line layer wide own low) d 0 + x)
unfolding starts_back
back_within line layer wide own low high x d h =
    by_direction (λ d. (get_or (starts_back line layer wide own low) d 0 ≤ get_or (starts_back line layer wide (own + x) high) d 0)
    × (get_or (starts_back line layer wide (own + x) high) d 0 ≤ get_or (starts_back line layer wide own low) d 0 + x))
    (omega arith, omega arith)
    (omega arith, omega arith)
    (omega arith, omega arith)
    (omega arith, omega arith)
    (omega arith, omega arith)
    (omega arith, omega arith)
    (omega arith, omega arith)
    d

pub start_within : (s : Sizes) (q : Site) → Sited s q → (x : ℕ) → Sited s (line_at q x) → (d : ℕ) → d < 7
    → (e : ℕ) → near s q.kind (index (line_at q x)) (d + 8) ≡ Some e → (get_or (starts_at s q) d 0 ≤ e) × (e ≤ get_or (starts_at s q) d 0 + x)
unfolding starts_at
start_within s q g x f d h e n = go q.kind refl is
  where
    further : q.kind ≡ Corner → q.across + x - (s.nx * s.ny + (s.nx + 1)) ≡ q.across - (s.nx * s.ny + (s.nx + 1)) + x
    further k = omega (arith, low_fits s q g k)

    is : get_or (starts_at s (line_at q x)) d 0 ≡ e
    is = start_is s (line_at q x) f d h e n

    go : (k : Kind) → q.kind ≡ k → get_or (starts_of k s (line_at q x)) d 0 ≡ e
        → (get_or (starts_of k s q) d 0 ≤ e) × (e ≤ get_or (starts_of k s q) d 0 + x)
    go Corner k w =
        let b = back_within (s.nx + 1) ((s.nx + 1) * (s.ny + 1)) s.nx q.own _ _ x d (further k) h in
        (omega arith, omega arith)
    go Centre k w =
        let b = back_within s.nx (s.nx * s.ny) (s.nx + 1) q.own q.across (q.across + x) x d refl h in
        (omega arith, omega arith)

-- the numbers that the code adds up are small
pub record Small (s : Sizes) (q : Site) : Type 0 where
  pub x : q.x ≤ 64
  pub y : q.y ≤ 64
  pub z : q.z ≤ 64
  pub own : q.own ≤ most
  pub across : q.across ≤ most
  pub corner_layer : (s.nx + 1) * (s.ny + 1) ≤ 4225
  pub centre_layer : s.nx * s.ny ≤ 4096
  pub line : s.nx ≤ 64

pub site_numbers : (s : Sizes) (q : Site) → Sized s → Sited s q → Small s q
site_numbers s q b g =
    let i = site_small s q b g in
    let n = numbers_small s q b g in
    record {
      x = omega arith;
      y = omega arith;
      z = omega arith;
      own = n.0;
      across = n.1;
      corner_layer = mul-le-mul {n₂ = 65} {m₂ = 65} (omega arith) (omega arith);
      centre_layer = mul-le-mul {n₂ = 64} {m₂ = 64} b.x_high b.y_high;
      line = b.x_high;
    }
