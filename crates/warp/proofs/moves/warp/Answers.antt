-- The points before the next line have had their turns. Assumes nothing.
use native.Mathlib.Omega.{arith}
use mathlib.Core.Path.{refl, sym, ap, subst, ◌∙◌}
use Rattle.lattice.proofs.Bounds.{points_small}
use Rattle.lines.proofs.Lines.{line_self}
use Rattle.warp.specs.inner.Quick.{outset_of}
use Rattle.labelling.specs.inner.Scans.{label_in}
use Rattle.lines.specs.inner.Walk.{Walks}
use Rattle.warp.proofs.Turning.{none_passed, never_moved, passed_few, passed_whole, passed_state, passed_bare, passed_walked}
use Rattle.warp.proofs.moves.warp.Goals as goal

pub returns-then-is_blank-clause-state_after : goal.returns-then-is_blank-clause-state_after
returns-then-is_blank-clause-state_after c =
    let outset = c.mark.ensures ∙ ap (outset_of (label_in c.args.scan)) c.requires.state_len in
    (never_moved _ outset (c.is_blank.ensures c.if-is_blank.true)).0

pub returns-then-is_blank-clause-value : goal.returns-then-is_blank-clause-value
returns-then-is_blank-clause-value c =
    let outset = c.mark.ensures ∙ ap (outset_of (label_in c.args.scan)) c.requires.state_len in
    (never_moved _ outset (c.is_blank.ensures c.if-is_blank.true)).1

pub loop-q-init : goal.loop-q-init
loop-q-init c =
    let outset = c.mark.ensures ∙ ap (outset_of (label_in c.args.scan)) c.requires.state_len in
    let walk = subst (Walks c.args.scan.lattice.sizes 0) (sym c.into_iter-q-iterator.ensures.into_iter_gives) c.of-q-items.ensures in
    (0, walk, none_passed _ outset)

pub is_bare_line-requires : goal.is_bare_line-requires
is_bare_line-requires c = line_self (c.in-Some.ensures.steps _ _ c.loop-q.invariant.1).0

pub warp_line-moved-requires-clause-line : goal.warp_line-moved-requires-clause-line
warp_line-moved-requires-clause-line c = line_self (c.in-Some.ensures.steps _ _ c.loop-q.invariant.1).0

pub warp_line-moved-requires-clause-state_value : goal.warp_line-moved-requires-clause-state_value
warp_line-moved-requires-clause-state_value c =
    let (p, walk, done) = c.loop-q.invariant in
    passed_state _ done (c.in-Some.ensures.steps _ p walk).0

pub overflow_add-moved : goal.overflow_add-moved
overflow_add-moved c =
    let l = c.args.scan.lattice in
    let (p, walk, done) = c.loop-q.invariant in
    omega (
      arith,
      passed_few _ done _ _ c.warp_line-moved.ensures.state_after c.warp_line-moved.ensures.counted,
      points_small l.sizes l.sized,
    )

pub loop-q-preserved-then-not-is_bare_line : goal.loop-q-preserved-then-not-is_bare_line
loop-q-preserved-then-not-is_bare_line c =
    let (p, walk, done) = c.loop-q.invariant in
    let step = c.in-Some.ensures.steps _ p walk in
    let line = c.warp_line-moved in
    (_, step.1, passed_walked _ done step.0 line.result line.ensures.state_after line.ensures.counted refl refl)

pub loop-q-preserved : goal.loop-q-preserved
loop-q-preserved c =
    let (p, walk, done) = c.loop-q.invariant in
    let step = c.in-Some.ensures.steps _ p walk in
    (_, step.1, passed_bare _ done step.0 (c.is_bare_line.ensures c.if-not-is_bare_line.false) refl refl)

pub returns : goal.returns
returns c =
    let (p, walk, done) = c.loop-q.invariant in
    let whole = passed_whole _ done (c.in-None.ensures.steps _ p walk) in record { state_after = whole.0; value = whole.1 }
