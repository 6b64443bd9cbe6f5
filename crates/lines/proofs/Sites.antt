-- What a decoded point says of the point with its number, and the points of a line. Assumes nothing.
use Prim.Native.Nat.{ℕ, ◌+◌, ◌*◌, ◌<◌}
use native.Mathlib.Omega.{arith}
use mathlib.Core.Path.{◌≡◌, sym, ap, subst, ◌∙◌}
use mathlib.Core.Bool.{Bool, true, false}
use Rattle.std.specs.Prelude.{if◌then◌else◌}
use Rattle.lattice.specs.declared.Sizes.{Sizes}
use Rattle.lattice.specs.declared.Site.{Site}
use Rattle.lattice.specs.Axis.{along_x}
use Rattle.lattice.specs.Counts.{Sized, grid, points}
use Rattle.lattice.specs.Direction.{Code, is_start, direction_of}
use Rattle.lattice.specs.Edge.{near, neighbour, edge_byte}
use Rattle.lattice.specs.inner.Site.{index, site_of, Sited}
use Rattle.lattice.proofs.Codes.{direction_lt}
use Rattle.lattice.proofs.Number.{number_lt}
use Rattle.lattice.proofs.Edge.{near_number}
use Rattle.lattice.proofs.Sites.{site_inside}
use Rattle.lines.specs.inner.Lines.{Line, line_at}
use Rattle.lines.proofs.Points.{Stands, own_at, sited}
use Rattle.lines.proofs.Lines.{line_at_law}

-- the site of a number is what it says, and has that number
pub siting : (s : Sizes) (p : ℕ) (q : Site) → q ≡ site_of s p → p < points s → Sited s q × (q.own ≡ p)
siting s p q e h = (sited w, own_at w)
  where
    w : Stands s p q
    w = record { is = e; below = h }

module _ (s : Sizes) (q : Site) (h : Sized s) (g : Sited s q) where
  pub site_lt : q.own < points s
  site_lt = rw g.own_is (number_lt s q.kind (index q) (site_inside s q h g))

  pub site_near : (c : ℕ) → neighbour s q.own c ≡ near s q.kind (index q) c
  site_near c = ap (λ (n : ℕ). neighbour s n c) g.own_is ∙ near_number s q.kind (index q) (site_inside s q h g) c

-- the point of index x in a line, as the code holds it
module _ {s : Sizes} {q t : Site} {x : ℕ} (l : Line s q.own q) (i : x < grid s q.kind along_x) (e : t ≡ line_at q x) where
  pub along_sited : Sited s t
  along_sited = subst (Sited s) (sym e) (sited (line_at_law l x i))

  pub along_own : t.own ≡ q.own + x
  along_own = ap (λ (r : Site). r.own) e

-- an edge's byte is in the table
pub byte_lt : (n p c q : ℕ) → Code c → p < n → q < n → edge_byte p c q < 7 * n
unfolding edge_byte
byte_lt n p c q h hp hq = go (is_start c)
  where
    go : (t : Bool) → 7 * (if t then p else q) + direction_of c < 7 * n
    go true = omega (arith, direction_lt c h)
    go false = omega (arith, direction_lt c h)
