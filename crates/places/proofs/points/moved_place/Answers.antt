-- Measured from the start, or from the end. Assumes nothing.
use mathlib.Core.Path.{sym, ap, ◌∙◌}
use Prim.Native.Nat.{ℕ}
use Rattle.lattice.specs.Direction.{step}
use Rattle.triple.specs.inner.Places.{place_at, along}
use Rattle.places.proofs.Standing.{measured_start, measured_end}
use Rattle.places.proofs.points.moved_place.Goals as goal

pub returns-then-is_start-clause-result_value : goal.returns-then-is_start-clause-result_value
returns-then-is_start-clause-result_value c =
    c.led.ensures.result_value
    ∙ ap (λ (n : ℕ). along (place_at c.args.rest) (step c.args.code.code) n)
    (sym (measured_start c.args.code.code c.args.t (sym c.is_start.ensures ∙ c.if-is_start.true)))

pub returns-else-is_start-clause-result_value : goal.returns-else-is_start-clause-result_value
returns-else-is_start-clause-result_value c =
    c.led-else-is_start.ensures.result_value
    ∙ ap (λ (n : ℕ). along (place_at c.args.rest) (step c.args.code.code) n)
    (sym (measured_end c.args.code.code c.args.t (sym c.is_start.ensures ∙ c.if-is_start.false)))
