-- A direction is a code of its start. Assumes nothing.
use mathlib.Core.Path.{ap, ◌∙◌}
use Prim.Native.Nat.{ℕ}
use Rattle.lattice.specs.Direction.{step}
use Rattle.triple.specs.inner.Places.{place_at, along}
use Rattle.places.proofs.Standing.{start_along}
use Rattle.places.proofs.points.cut_place.Goals as goal

pub returns-clause-result_value : goal.returns-clause-result_value
returns-clause-result_value c =
    c.led.ensures.result_value
    ∙ ap (λ (n : ℕ). along (place_at c.args.start) (step n) c.args.t) c.at_start.ensures
    ∙ start_along (place_at c.args.start) c.args.d c.args.t c.requires.d_bound
