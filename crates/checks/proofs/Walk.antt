-- What the walk over the lines of a block asks. Assumes nothing.
--     Room, room      a line lies in the table, it is short, and its numbers are small
--     line_point      a point of a line, as its test asks for it
--     part_small      the numbers of a part of a line are small
use Prim.Native.Nat.{ℕ, ◌+◌, ◌-◌, ◌≤◌, ◌<◌}
use native.Mathlib.Omega.{arith}
use mathlib.Core.Path.{◌≡◌}
use Rattle.lattice.specs.declared.Sizes.{Sizes}
use Rattle.lattice.specs.declared.Site.{Site}
use Rattle.lattice.specs.Axis.{along_x}
use Rattle.lattice.specs.Counts.{Sized, grid, points}
use Rattle.lattice.specs.inner.Site.{Sited, most}
use Rattle.lattice.proofs.Bounds.{points_small}
use Rattle.lines.specs.inner.Lines.{Line, line_at}
use Rattle.lattice.proofs.Sites.{numbers_small}
use Rattle.lines.proofs.Points.{sited}
use Rattle.lines.proofs.Lines.{line_stands, line_fits, line_short, some}
use Rattle.lines.proofs.Sites.{along_sited, along_own}

-- what the point of index x in a line asks
pub line_small : {s : Sizes} {q : Site} {x : ℕ} → Sized s → Line s q.own q → x ≤ grid s q.kind along_x → (q.own ≤ most) × (q.across ≤ most) × (x ≤ 65)
line_small {s} {q} h l g =
    let n = numbers_small s q h (sited (line_stands l)) in
    (n.0, n.1, omega (arith, line_short s h q.kind))

-- m is the length of the line that starts at p
pub record Room (s : Sizes) (p m : ℕ) : Type 0 where
  pub fits : p + m ≤ points s
  pub some : 0 < m
  pub short : m ≤ 65
  pub small : points s ≤ 536769

module _ {s : Sizes} {q : Site} {m : ℕ} (h : Sized s) (l : Line s q.own q) (e : m ≡ grid s q.kind along_x) where
  pub room : Room s q.own m
  room =
      record {
        fits = omega (arith, line_fits l h);
        some = omega (arith, some s h q.kind);
        short = omega (arith, line_short s h q.kind);
        small = points_small s h;
      }

  pub line_point : {t : Site} {x : ℕ} → x < m → t ≡ line_at q x → Sited s t
  line_point i f = along_sited l (omega arith) f

  -- the points from index x on and before z, by the decoded point that they start at
  pub part_small : {t : Site} {x z : ℕ} → x < z → z ≤ m → t ≡ line_at q x → t.own + (z - x) ≤ 536769
  part_small i j f = omega (arith, room.fits, room.small, along_own l (omega arith) f)
