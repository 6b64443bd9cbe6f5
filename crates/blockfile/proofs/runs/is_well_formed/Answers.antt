-- Each way out by the checks that led there. Assumes nothing.
use mathlib.Core.Path.{ap, ◌∙◌}
use mathlib.Core.Bool.{not}
use Rattle.blockfile.proofs.Left.{zero_free}
use native.Mathlib.Omega.{arith}
use Rattle.blockfile.proofs.Parts.{first_end, too_short, misfit, all_fit}
use Rattle.blockfile.proofs.runs.is_well_formed.Goals as goal

pub returns-then-bytes-head : goal.returns-then-bytes-head
returns-then-bytes-head c =
    let a = c.args in
    too_short a.bytes.now a.n (omega (arith, first_end a.bytes.now a.n))

pub returns-then-bytes-first : goal.returns-then-bytes-first
returns-then-bytes-first c =
    let a = c.args in
    too_short a.bytes.now a.n (omega (arith, first_end a.bytes.now a.n))

pub returns-then-bytes-end : goal.returns-then-bytes-end
returns-then-bytes-end c =
    let a = c.args in
    too_short a.bytes.now a.n (omega arith)

pub returns-then-not-runs_fit : goal.returns-then-not-runs_fit
returns-then-not-runs_fit c =
    misfit _ _ (c.from-count.ensures ∙ c.two_at.ensures) c.end_of-end.ensures c.if-bytes-end.false
    c.runs_fit.ensures c.if-not-runs_fit.true

pub slice_bounds-contains-count : goal.slice_bounds-contains-count
slice_bounds-contains-count c =
    let a = c.args in
    omega (arith, first_end a.bytes.now a.n)

pub slice_bounds-contains-start : goal.slice_bounds-contains-start
slice_bounds-contains-start c =
    let a = c.args in
    omega (arith, first_end a.bytes.now a.n)

pub returns : goal.returns
returns c =
    all_fit _ _ (c.from-count.ensures ∙ c.two_at.ensures) c.end_of-end.ensures c.if-bytes-end.false
    c.runs_fit.ensures c.if-not-runs_fit.false (ap not c.contains.ensures.value ∙ zero_free _)
