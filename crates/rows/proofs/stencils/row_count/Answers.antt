-- How many rows each line of the table has. Assumes nothing.
use Prim.Native.Nat.{ℕ}
use native.Mathlib.Omega.{arith}
use borrow.Author.Tests.{le-leb}
use mathlib.Core.Path.{sym, ap}
use Rattle.stencil.specs.Stencil.{stencil_of}
use Rattle.rows.specs.inner.Stencils.{row_count}
use Rattle.rows.proofs.StencilLaws.{count_one}
use Rattle.rows.proofs.stencils.row_count.Goals as goal

pub returns-in-11-clause-value : goal.returns-in-11-clause-value
unfolding stencil_of row_count
returns-in-11-clause-value c = ap (λ (k : ℕ). row_count (stencil_of k)) (sym c.in-11.is)

pub returns-in-12-clause-value : goal.returns-in-12-clause-value
unfolding stencil_of row_count
returns-in-12-clause-value c = ap (λ (k : ℕ). row_count (stencil_of k)) (sym c.in-12.is)

pub returns-in-16-clause-value : goal.returns-in-16-clause-value
unfolding stencil_of row_count
returns-in-16-clause-value c = ap (λ (k : ℕ). row_count (stencil_of k)) (sym c.in-16.is)

pub returns-in-0-to-4-clause-value : goal.returns-in-0-to-4-clause-value
unfolding stencil_of row_count
returns-in-0-to-4-clause-value c = simp (le-leb c.args.pattern 4 (omega arith))

pub returns-in_default-clause-value : goal.returns-in_default-clause-value
returns-in_default-clause-value c = count_one c.args.pattern (omega arith) (omega arith) (omega arith) (omega arith)
