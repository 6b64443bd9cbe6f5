-- A byte above 0 is its own remainder. Assumes nothing.
use native.Mathlib.Omega.{arith}
use mathlib.Core.Path.{◌≡◌, sym, ◌∙◌}
use Rattle.moving.specs.Violation.{measured}
use Rattle.labelling.proofs.violation.distance.Goals as goal

pub returns-then-is_start : goal.returns-then-is_start
unfolding measured
returns-then-is_start c =
    let m : measured c.args.code.code c.args.t ≡ c.args.t = simp (sym c.is_start.ensures ∙ c.if-is_start.true) in
    record { none = λ e. omega arith; some = λ n. omega (arith, m, c.ranges.t) }

pub returns-else-is_start : goal.returns-else-is_start
unfolding measured
returns-else-is_start c =
    record { none = λ e. omega arith; some = λ n. simp (sym c.is_start.ensures ∙ c.if-is_start.false) }
