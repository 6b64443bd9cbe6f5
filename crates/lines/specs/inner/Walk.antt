-- The walk over the lines of a lattice, in ascending number.
--     Comes       the line that comes at a number, or none after the last point
--     Walks       a walk that goes on at a number
--     CanPass, Passes, points_ahead     what its iterator asks, gives and has left
use Rattle.std.specs.Prelude.{ℕ, ◌+◌, ◌-◌, ◌≡◌, Option, Some, None, MatchOption}
use Rattle.lattice.specs.declared.Sizes.{Sizes}
use Rattle.lattice.specs.declared.Site.{Site}
use Rattle.lattice.specs.Axis.{along_x}
use Rattle.lattice.specs.Counts.{grid, points}
use Rattle.lines.specs.declared.walk.Lines.{Lines}
use Rattle.lines.specs.inner.Lines.{Line}

-- the line that comes at the number p, by its first point; there is none where all points have been passed
abbrev pub Comes : Sizes → ℕ → Option Site → Type 0
Comes s p o = MatchOption o (p ≡ points s) (λ q. Line s p q)

-- the walk over the lattice of these sizes goes on at p
pub record Walks (s : Sizes) (p : ℕ) (l : Lines) : Type 0 where
  pub same : l.lattice.sizes ≡ s
  pub comes : Comes s p l.ahead

abbrev pub CanPass : Lines → Type 0
CanPass l = (p : ℕ) × Walks l.lattice.sizes p l

-- wherever the walk goes on: the line there, and it goes on after it; or all points have been passed
abbrev pub Passes : Lines → Option Site → Lines → Type 0
Passes l r m = (s : Sizes) (p : ℕ) → Walks s p l
    → MatchOption r (p ≡ points s) (λ q. Line s p q × Walks s (p + grid s q.kind along_x) m)

-- how many points at most are still to be passed
abbrev pub ahead_from : ℕ → Option Site → ℕ
ahead_from n None = 0
ahead_from n (Some q) = n - q.own

abbrev pub points_ahead : Lines → ℕ
points_ahead l = ahead_from (points l.lattice.sizes) l.ahead
