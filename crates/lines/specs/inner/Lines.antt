-- A line of lattice points along x, as the code walks it.
use Rattle.std.specs.Prelude.{ℕ, ◌+◌, ◌<◌, ◌≡◌}
use Rattle.lattice.specs.declared.Sizes.{Sizes}
use Rattle.lattice.specs.declared.Site.{Site}
use Rattle.lattice.specs.Counts.{points}
use Rattle.lattice.specs.inner.Site.{site_of}

-- q is the decoded point p, the first of its line
pub record Line (s : Sizes) (p : ℕ) (q : Site) : Type 0 where
  pub is : q ≡ site_of s p
  pub first : q.x ≡ 0
  pub below : p < points s

-- the point of index x in the line that starts at q
abbrev pub line_at : Site → ℕ → Site
line_at q x = record { kind = q.kind; x = x; y = q.y; z = q.z; own = q.own + x; across = q.across + x }
