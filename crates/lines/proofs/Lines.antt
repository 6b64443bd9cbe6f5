-- The points of a line, and the next line. Assumes nothing.
use Prim.Native.Nat.{ℕ, ◌+◌, ◌*◌, ◌-◌, ◌≤◌, ◌<◌}
use native.Mathlib.Omega.{arith}
use mathlib.Core.Path.{◌≡◌, sym, ap, subst, ◌∙◌}
use Rattle.lattice.specs.declared.Sizes.{Sizes}
use Rattle.lattice.specs.declared.Kind.{Kind}
use Rattle.lattice.specs.declared.Kind.TheVariants.{Corner, Centre}
use Rattle.lattice.specs.declared.Site.{Site}
use Rattle.lattice.specs.Axis.{along_x, along_y, along_z, xyz}
use Rattle.lattice.specs.Counts.{Sized, grid, points}
use Rattle.lattice.specs.Point.{other, Inside, linear, number, index_of}
use Rattle.lattice.specs.inner.Site.{odd_of, index, site_at, site_of, Sited}
use Rattle.lattice.proofs.Number.{number_lt, index_number}
use Rattle.lattice.proofs.Sites.{own_grid, site_is}
use Rattle.lines.specs.inner.Lines.{Line, line_at}
use Rattle.lines.proofs.Points.{site_number, Stands, own_at, sited, next_y, next_z, next_kind, points_some}

-- along a line numbers go up by one
on : (s : Sizes) (x y z : ℕ) (k : Kind) → number s k (xyz x y z) ≡ number s k (xyz 0 y z) + x
unfolding linear
on s x y z Corner = omega arith
on s x y z Centre = omega arith

pub some : (s : Sizes) → Sized s → (k : Kind) → 0 < grid s k along_x
some s h Corner = omega arith
some s h Centre = omega arith

-- a line has at most 65 points
pub line_short : (s : Sizes) → Sized s → (k : Kind) → grid s k along_x ≤ 65
line_short s h Corner = omega (arith, h.x_high)
line_short s h Centre = omega (arith, h.x_high)

pub line_stands : {s : Sizes} {p : ℕ} {q : Site} → Line s p q → Stands s p q
line_stands l = record { is = l.is; below = l.below }

module _ {s : Sizes} {p : ℕ} {q : Site} (l : Line s p q) where
  pub line_own : q.own ≡ p
  line_own = own_at (line_stands l)

  g : Sited s q
  g = sited (line_stands l)

  numbered : (k : Kind) (n x : ℕ) → n ≡ number s k (index q) → n + x ≡ number s k (xyz x q.y q.z)
  numbered k n x e =
      ap (λ (m : ℕ). m + x) (e ∙ ap (λ (i : ℕ). number s k (xyz i q.y q.z)) l.first) ∙ sym (on s x q.y q.z k)

  pub line_at_law : (x : ℕ) → x < grid s q.kind along_x → Stands s (p + x) (line_at q x)
  line_at_law x h =
      record {
        is = site_is s q.kind x q.y q.z (q.own + x) (q.across + x) own (numbered (other q.kind) q.across x g.across_is)
            ∙ sym (site_number s q.kind (xyz x q.y q.z) inside) ∙ ap (site_of s) (sym own ∙ ap (λ (n : ℕ). n + x) line_own);
        below = subst (λ (n : ℕ). n < points s) (sym own ∙ ap (λ (n : ℕ). n + x) line_own)
            (number_lt s q.kind (xyz x q.y q.z) inside);
      }
    where
      own : q.own + x ≡ number s q.kind (xyz x q.y q.z)
      own = numbered q.kind q.own x g.own_is

      inside : Inside s q.kind (xyz x q.y q.z)
      inside along_x = h
      inside along_y = g.y_in
      inside along_z = g.z_in

  module _ (h : Sized s) where
    -- the last point of the line
    abbrev end : Site
    end = line_at q (grid s q.kind along_x - 1)

    long : 0 < grid s q.kind along_x
    long = some s h q.kind

    whole : grid s q.kind along_x ≤ grid s q.kind along_x - 1 + 1
    whole = omega (arith, long)

    end_at : Stands s (p + (grid s q.kind along_x - 1)) end
    end_at = line_at_law (grid s q.kind along_x - 1) (omega (arith, long))

    pub line_fits : p + grid s q.kind along_x ≤ points s
    line_fits = omega (arith, end_at.below, long)

    -- the number after it
    after : q.own + (grid s q.kind along_x - 1) + 1 ≡ p + grid s q.kind along_x
    after = omega (arith, line_own, long)

    made : {r : Site} (k : Kind) (y z : ℕ) → p + grid s q.kind along_x < points s → r ≡ site_at s k (xyz 0 y z)
        → site_at s k (xyz 0 y z) ≡ site_of s (q.own + (grid s q.kind along_x - 1) + 1) → Line s (p + grid s q.kind along_x) r
    unfolding site_at
    made k y z b e f =
        record { is = e ∙ f ∙ ap (site_of s) after; first = ap (λ (t : Site). t.x) e; below = b }

    module _ (odd : ℕ) (o : odd ≡ odd_of q.kind) (b : p + grid s q.kind along_x < points s) where
      pub line_y : {r : Site} → q.y + 1 < s.ny + 1 - odd → r ≡ site_at s q.kind (xyz 0 (q.y + 1) q.z)
          → Line s (p + grid s q.kind along_x) r
      line_y i e =
          made q.kind (q.y + 1) q.z b e
          (next_y s end (sited end_at) whole (omega (arith, own_grid q.kind s.ny odd o)))

      pub line_z : {r : Site} → s.ny + 1 - odd ≤ q.y + 1 → q.z + 1 < s.nz + 1 - odd → r ≡ site_at s q.kind (xyz 0 0 (q.z + 1))
          → Line s (p + grid s q.kind along_x) r
      line_z i j e =
          made q.kind 0 (q.z + 1) b e
          (next_z s end (sited end_at) whole (omega (arith, own_grid q.kind s.ny odd o))
          (omega (arith, own_grid q.kind s.nz odd o)))

      pub line_centres : {r : Site} → s.ny + 1 - odd ≤ q.y + 1 → s.nz + 1 - odd ≤ q.z + 1 → r ≡ site_at s Centre (xyz 0 0 0)
          → Line s (p + grid s q.kind along_x) r
      line_centres i j e =
          made Centre 0 0 b e
          (next_kind s end (sited end_at) h whole (omega (arith, own_grid q.kind s.ny odd o))
          (omega (arith, own_grid q.kind s.nz odd o)) (omega (arith, after)))

-- a line by its own number, and the line after it as the code counts on
pub line_self : {s : Sizes} {p : ℕ} {q : Site} → Line s p q → Line s q.own q
line_self {s = s} {q = q} l = subst (λ (n : ℕ). Line s n q) (sym (line_own l)) l

pub line_on : {s : Sizes} {p len : ℕ} {q r : Site} → Line s p q → len ≡ grid s q.kind along_x → Line s (q.own + grid s q.kind along_x) r
    → Line s (p + len) r
line_on {s = s} {r = r} l e n = subst (λ (k : ℕ). Line s k r) (λ i. line_own l i + sym e i) n

-- the first line
pub line_first : {s : Sizes} {q : Site} → Sized s → q ≡ site_of s 0 → Line s 0 q
unfolding site_at linear
line_first {s = s} h e = record { is = e; first = ap (λ (t : Site). t.x) e ∙ zeroth; below = points_some s h }
  where
    inside : Inside s Corner (xyz 0 0 0)
    inside along_x = omega arith
    inside along_y = omega arith
    inside along_z = omega arith

    zero : number s Corner (xyz 0 0 0) ≡ 0
    zero = let w : 0 + (s.ny + 1) * 0 ≡ 0 = omega arith in omega (arith, ap (λ (n : ℕ). (s.nx + 1) * n) w)

    zeroth : index_of s 0 along_x ≡ 0
    zeroth = ap (λ (n : ℕ). index_of s n along_x) (sym zero) ∙ index_number s Corner (xyz 0 0 0) inside along_x
