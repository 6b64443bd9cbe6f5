-- A line on the outside is searched whole; of any other the two ends are looked at. Assumes nothing.
use Prim.Native.Nat.{ℕ, ◌+◌}
use native.Mathlib.Omega.{arith}
use mathlib.Core.Path.{sym, ap, ◌∙◌}
use Rattle.checks.proofs.Search.{first_same}
use Rattle.checks.proofs.Outer.{outer_fault, inner_first, inner_last, inner_none}
use Rattle.checks.proofs.Walk.{room}
use Rattle.checks.proofs.rim.line_rim.Goals as goal

pub first_plus-requires : goal.first_plus-requires
first_plus-requires c = let r = room c.args.scan.lattice.sized c.requires c.line_length.ensures.value in omega arith

pub is_plus-requires-else-is_plus : goal.is_plus-requires-else-is_plus
is_plus-requires-else-is_plus c = let r = room c.args.scan.lattice.sized c.requires c.line_length.ensures.value in omega arith

pub returns-then-is_outer : goal.returns-then-is_outer
returns-then-is_outer c =
    let own = c.args.q.own in
    let o = sym c.is_outer.ensures ∙ c.if-is_outer.true in
    first_same c.first_plus.result (outer_fault _ _ c.requires o) (ap (λ (m : ℕ). own + m) c.line_length.ensures.value)
    c.first_plus.ensures

pub returns-then-is_plus : goal.returns-then-is_plus
returns-then-is_plus c =
    let o = sym c.is_outer.ensures ∙ c.if-is_outer.false in
    inner_first _ _ c.requires c.args.scan.lattice.sized o (sym c.is_plus.ensures ∙ c.if-is_plus.true)

pub returns-then-is_plus-2 : goal.returns-then-is_plus-2
returns-then-is_plus-2 c =
    let o = sym c.is_outer.ensures ∙ c.if-is_outer.false in
    let h = c.args.scan.lattice.sized in
    let r = room h c.requires c.line_length.ensures.value in
    inner_last _ _ c.requires h o _ (omega (arith, c.line_length.ensures.value))
    (sym c.is_plus.ensures ∙ c.if-is_plus.false) (sym c.is_plus-else-is_plus.ensures ∙ c.if-is_plus-2.true)

pub returns-else-is_plus-2 : goal.returns-else-is_plus-2
returns-else-is_plus-2 c =
    let o = sym c.is_outer.ensures ∙ c.if-is_outer.false in
    let h = c.args.scan.lattice.sized in
    let r = room h c.requires c.line_length.ensures.value in
    inner_none _ _ c.requires h o _ (omega (arith, c.line_length.ensures.value))
    (sym c.is_plus.ensures ∙ c.if-is_plus.false) (sym c.is_plus-else-is_plus.ensures ∙ c.if-is_plus-2.false)
