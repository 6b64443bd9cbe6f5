-- A line of points: where its first fault is found, and what stands before that. Assumes nothing.
--     line_fine           a line without a fault
--     in_line_law, to_fault   the point that the first fault is found at, and the points before it
--     fine_to             these stay
use Prim.Native.Nat.{ℕ, ◌+◌, ◌*◌, ◌-◌, ◌/◌, ◌≤◌, ◌<◌}
use native.Mathlib.Omega.{arith}
use mathlib.Core.Path.{refl}
use mathlib.Core.List.{List}
use lib.IntN.{ℤ}
use Rattle.lattice.specs.declared.Sizes.{Sizes}
use Rattle.lattice.specs.declared.Site.{Site}
use Rattle.lattice.specs.Axis.{along_x}
use Rattle.lattice.specs.Counts.{grid}
use Rattle.moving.specs.declared.Label.{Label}
use Rattle.filling.specs.Check.{cut_fault}
use Rattle.checks.specs.inner.Search.{Throughout}
use Rattle.checks.specs.inner.Faults.{LineFine, Wrong, number_at}
use Rattle.checks.proofs.Search.{upto}
use Rattle.patch.specs.inner.Mends.{Mends, FineUpTo, fault_by, table_due}
use Rattle.patch.proofs.Mends.{counts, fine_part}

-- a line without a fault
pub line_fine : (s : Sizes) (label : ℕ → Label) (samples : List ℤ) (cuts : List ℕ) (q : Site) → LineFine s label cuts q
    → Throughout (fault_by (table_due s label samples) cuts) 0 (7 * q.own) (7 * (q.own + grid s q.kind along_x))
unfolding cut_fault number_at
line_fine s label samples cuts q t = record { is = λ o l u. t.is o l u }

-- the rest of a line from its point of index x on, up to the point that the first fault is found at
module _ (s : Sizes) (label : ℕ → Label) (cuts : List ℕ) (q : Site) (x : ℕ) {n o : ℕ}
    (w : Wrong (cut_fault s label cuts) (7 * (q.own + x)) (7 * (q.own + grid s q.kind along_x)) n o) where
  pub in_line_law : q.own ≤ o / 7
  in_line_law = omega (arith, w.low)

  pub to_fault : (o / 7 - q.own < grid s q.kind along_x) × FineUpTo s label cuts q x (o / 7 - q.own)
  to_fault = (omega (arith, w.low, w.high), record { low = omega (arith, w.low); fine = upto (omega (arith, w.low)) w.before })

-- it stays as it is
pub fine_to : (s : Sizes) (label : ℕ → Label) (samples : List ℤ) (cuts : List ℕ) (q : Site) (x y : ℕ) → FineUpTo s label cuts q x y
    → Mends (table_due s label samples) (7 * (q.own + x)) (7 * (q.own + y)) cuts cuts (counts 0 0)
unfolding cut_fault number_at
fine_to s label samples cuts q x y f = fine_part (omega (arith, f.low)) (record { is = λ o l u. f.fine.is o l u }) refl
