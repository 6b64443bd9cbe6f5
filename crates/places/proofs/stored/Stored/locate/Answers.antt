-- A point, a cut, or nothing. Assumes nothing.
use native.Mathlib.Omega.{arith}
use mathlib.Core.Path.{ap, ◌∙◌}
use Prim.Native.Nat.{ℕ, ◌-◌}
use Rattle.lattice.proofs.Sized.{sized_fits}
use Rattle.refusals.specs.inner.Numbers.{refusal_number}
use Rattle.places.specs.inner.Answer.{cut_answer}
use Rattle.places.proofs.Answers.{call-point, call-cut, call-past}
use Rattle.places.proofs.stored.Stored.locate.Goals as goal

pub returns-then-id-n-clause-answer : goal.returns-then-id-n-clause-answer
returns-then-id-n-clause-answer c =
    let t = c.args.self in
    let fits = sized_fits t.lattice.sizes t.lattice.sized in
    c.point.ensures.answer
    ∙ call-point t.lattice.sizes t.cuts.now t.state.now c.args.id fits t.cuts_long t.state_long (omega arith)

pub returns-then-id-n-2-clause-answer : goal.returns-then-id-n-2-clause-answer
returns-then-id-n-2-clause-answer c =
    let t = c.args.self in
    let fits = sized_fits t.lattice.sizes t.lattice.sized in
    c.cut.ensures.answer
    ∙ ap (λ (m : ℕ). cut_answer t.lattice.sizes t.cuts.now t.state.now (c.args.id - m)) c.point_count-n.ensures
    ∙ call-cut t.lattice.sizes t.cuts.now t.state.now c.args.id fits t.cuts_long t.state_long (omega arith) (omega arith)

pub returns-else-id-n-2-clause-answer : goal.returns-else-id-n-2-clause-answer
unfolding refusal_number
returns-else-id-n-2-clause-answer c =
    let t = c.args.self in
    let fits = sized_fits t.lattice.sizes t.lattice.sized in
    call-past t.lattice.sizes t.cuts.now t.state.now c.args.id fits t.cuts_long t.state_long (omega arith)
