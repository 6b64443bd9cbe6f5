-- The first p entries are those of the outset. Assumes nothing.
use native.Mathlib.Omega.{arith}
use mathlib.Core.Path.{refl, ap, ◌∙◌}
use lib.IntN.{ℤ}
use lib.ListN.{length-set}
use Rattle.basics.specs.Lists.{from}
use Rattle.moving.specs.Label.{label_of, labels}
use Rattle.moving.specs.Moving.{mark_of}
use Rattle.labelling.proofs.Labels.{high_is, low_end, handed}
use Rattle.warp.specs.inner.Quick.{outset_of}
use Rattle.warp.proofs.Turning.{marked_more, marked_all}
use Rattle.warp.proofs.moves.mark.Goals as goal

pub loop-p-init : goal.loop-p-init
unfolding outset_of from
loop-p-init c = (refl, omega arith, refl)

pub loop-p-preserved : goal.loop-p-preserved
unfolding labels
loop-p-preserved c =
    let band = c.args.scan.band in
    let (e, l, n) = c.loop-p.invariant in
    let fits = c.requires.band_le_band_most in
    let mark = c.mark_of.ensures band (low_end band fits) (high_is band fits) in
    let is = mark ∙ ap (λ (x : ℤ). mark_of (label_of band x)) (handed _ c.sample.type_inv ∙ c.sample.ensures) in (
      marked_more _ c.loop-p.state c.loop-p.p _ (omega arith) e is,
      omega arith,
      simp length-set n,
    )

pub returns : goal.returns
returns c = let (e, l, n) = c.loop-p.invariant in marked_all _ c.loop-p.state c.loop-p.p _ (omega (arith, c.loop-p-test.false)) n e
