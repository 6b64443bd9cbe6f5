-- The loop's invariant: the ids of the windows gone over are counted and have places. Assumes nothing.
use Prim.Native.Nat.{ℕ}
use native.Mathlib.Omega.{arith}
use mathlib.Core.Path.{refl}
use Rattle.std.specs.Prelude.{Option, None, Some, MatchOption}
use Rattle.nodes.specs.inner.Rounds.{SomeUnplaced}
use Rattle.nodes.proofs.Surveying.{found_none, survey_none, survey_more, survey_done, total_fits}
use Rattle.nodes.proofs.survey.survey.Goals as goal

pub loop-index-init : goal.loop-index-init
loop-index-init c = survey_none refl

pub survey_window-requires-clause-total_bound : goal.survey_window-requires-clause-total_bound
survey_window-requires-clause-total_bound c = total_fits c.loop-index.invariant

pub loop-index-preserved : goal.loop-index-preserved
loop-index-preserved c =
    let none = found_none _ c.requires (c.is_hit.ensures c.if-is_hit.false) _ in
    survey_more c.loop-index.invariant (omega arith) (omega arith) none

pub survey_window-requires-2-clause-total_bound : goal.survey_window-requires-2-clause-total_bound
survey_window-requires-2-clause-total_bound c = total_fits c.loop-index.invariant

-- what is known of a number that is there
known : (A : Type 0) {B C : ℕ → Type 0} (r : Option ℕ) → MatchOption r A B → ((n : ℕ) → B n → C n) → MatchOption r A C
known A None a f = a
known A (Some n) b f = f n b

pub returns : goal.returns
returns c =
    let e = c.survey_window-2.ensures in
    known (SomeUnplaced c.args.stored c.args.rows.now) c.survey_window-2.result e.found
    (λ n f. survey_done c.loop-index.invariant (omega (arith, c.loop-index.invariant.some)) f e.windowed)
