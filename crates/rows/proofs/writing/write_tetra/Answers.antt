-- The line of the table that the labels choose. Assumes nothing.
use Prim.Native.Nat.{ℕ}
use native.Mathlib.Omega.{arith}
use mathlib.Core.Path.{ap, ◌∙◌}
use Rattle.stencil.specs.Stencil.{stencil_of}
use Rattle.rows.specs.inner.Stencils.{row_count, tetra_ids}
use Rattle.rows.proofs.StencilLaws.{none_for, ordered_among, tetra_long}
use Rattle.rows.proofs.writing.write_tetra.Goals as goal

pub write_stencil-requires-clause-in_order : goal.write_stencil-requires-clause-in_order
write_stencil-requires-clause-in_order c = rw c.order-order.ensures (ordered_among c.args.labels)

pub write_stencil-requires-clause-room : goal.write_stencil-requires-clause-room
write_stencil-requires-clause-room c =
    rw c.pattern-pattern.ensures (omega (arith, tetra_long c.args.wound c.args.t c.args.labels, c.requires.w_in_bounds))

pub returns : goal.returns
unfolding tetra_ids
returns c =
    rw (c.order-order.ensures, c.is_even.ensures, c.pattern-pattern.ensures) at c.write_stencil.ensures

pub returns-then-row_count-eq0 : goal.returns-then-row_count-eq0
returns-then-row_count-eq0 c =
    let none = c.row_count.ensures.value ∙ ap (λ (k : ℕ). row_count (stencil_of k)) c.pattern-pattern.ensures in
    none_for _ _ _ _ none c.if-row_count-eq0.true _ _
