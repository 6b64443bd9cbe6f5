-- The loop's invariant: by whatever band, a sample seen has the label only if the outermost one has. Assumes nothing.
use native.Mathlib.Omega.{arith}
use Rattle.labelling.proofs.Labels.{handed}
use Rattle.ranges.proofs.Folds.{next_highest, next_lowest, none_is}
use Rattle.ranges.proofs.outermost.Goals.{then-plus, else-plus}
use Rattle.ranges.proofs.outermost.Goals as goal

pub loop-x-init : goal.loop-x-init
loop-x-init c = record { none = λ band t j a. absurd (omega arith) }

pub loop-x-preserved : goal.loop-x-preserved
loop-x-preserved c =
    let i = c.loop-x.invariant in
    let read = handed _ c.x-1.given in
    elim c.if-plus.branch [
      | then-plus w ↦ next_highest _ i w.seen-is w.max-seen.type_inv read w.if-plus.true w.max-seen.ensures.self_bound w.max-seen.ensures.other_bound
      | else-plus w ↦ next_lowest _ i w.seen-is w.min-seen.type_inv read w.if-plus.false w.min-seen.ensures.self_bound w.min-seen.ensures.other_bound
    ]

pub returns : goal.returns
returns c = none_is c.loop-x.invariant c.loop-x-test.false
