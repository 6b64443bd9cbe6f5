-- The first ranges are without a cut. Assumes nothing.
use native.Mathlib.Omega.{arith}
use Rattle.lines.proofs.Points.{sited}
use Rattle.lines.proofs.Lines.{line_stands}
use Rattle.warp.proofs.Quiet.{ranges_small, bare_line}
use Rattle.warp.proofs.bytes.is_bare_line.Goals as goal

pub behind-back-requires : goal.behind-back-requires
behind-back-requires c = sited (line_stands c.requires)

pub is_uncut-requires : goal.is_uncut-requires
is_uncut-requires c =
    let l = c.args.lattice in
    let g = sited (line_stands c.requires) in (
      ranges_small l.sizes c.args.q l.sized g _ c.behind-back.ensures c.loop-first.first-index c.loop-first-test.true,
      c.line_length-m.ensures.lower_bound.1,
    )

pub returns : goal.returns
returns c =
    let l = c.args.lattice in
    λ t. bare_line l.sizes c.args.q l.sized c.requires _ c.behind-back.ensures c.line_length-m.ensures.value
    (λ k h. c.loop-first.invariant k (omega (arith, c.loop-first-test.false)))
