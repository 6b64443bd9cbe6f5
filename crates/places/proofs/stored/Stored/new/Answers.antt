-- Sizes, cuts and state, in this order. Assumes nothing.
use native.Mathlib.Omega.{arith}
use Prim.Native.Nat.{ℕ, ◌*◌}
use mathlib.Core.Path.{sym, ap, ◌∙◌}
use Rattle.lattice.specs.Counts.{points}
use Rattle.lattice.proofs.Bounds.{points_small}
use Rattle.lattice.proofs.Sized.{lattice_fits}
use Rattle.refusals.specs.inner.Numbers.{refusal_number}
use Rattle.places.proofs.Answers.{call-size, call-cuts, call-state}
use Rattle.places.proofs.stored.Stored.new.Goals as goal

pub returns-in_default : goal.returns-in_default
unfolding refusal_number
returns-in_default c = λ id. call-size c.args.sizes c.args.cuts.now c.args.state.now id (sym c.in_default.ensures.taken)

pub overflow_mul-n : goal.overflow_mul-n
overflow_mul-n c = omega (arith, c.point_count-n.ensures, points_small c.in-Some.lattice.sizes c.in-Some.lattice.sized)

pub returns-then-cuts-n : goal.returns-then-cuts-n
unfolding refusal_number
returns-then-cuts-n c =
    let same = c.in-Some.ensures.same in
    let count = c.point_count-n.ensures ∙ ap points same in
    λ id. call-cuts c.args.sizes c.args.cuts.now c.args.state.now id (lattice_fits c.in-Some.lattice same)
    (λ e. c.if-cuts-n.true (e ∙ sym (ap (λ (m : ℕ). 7 * m) count)))

pub returns-then-state-n : goal.returns-then-state-n
unfolding refusal_number
returns-then-state-n c =
    let same = c.in-Some.ensures.same in
    let count = c.point_count-n.ensures ∙ ap points same in
    λ id. call-state c.args.sizes c.args.cuts.now c.args.state.now id (lattice_fits c.in-Some.lattice same)
    (c.if-cuts-n.false ∙ ap (λ (m : ℕ). 7 * m) count) (λ e. c.if-state-n.true (e ∙ sym count))
