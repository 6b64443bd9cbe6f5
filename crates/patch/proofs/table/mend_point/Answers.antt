-- The seven bytes of the point, lent and come back. Assumes nothing.
use native.Mathlib.Omega.{arith}
use mathlib.Core.Path.{refl}
use Rattle.lines.proofs.Sites.{along_own}
use Rattle.checks.proofs.Walk.{room, line_small, line_point}
use Rattle.patch.proofs.Site.{seven_mended}
use Rattle.patch.proofs.table.mend_point.Goals as goal

pub slice_bounds-mend_site-end : goal.slice_bounds-mend_site-end
slice_bounds-mend_site-end c =
    let r = room c.args.scan.lattice.sized c.requires.line refl in
    omega (arith, r.fits, c.requires.x_bound, c.requires.tabled)

pub along-requires : goal.along-requires
along-requires c = line_small c.args.scan.lattice.sized c.requires.line (omega (arith, c.requires.x_bound))

pub mend_site-requires-clause-sited : goal.mend_site-requires-clause-sited
mend_site-requires-clause-sited c = line_point c.args.scan.lattice.sized c.requires.line refl c.requires.x_bound c.along.ensures

pub returns : goal.returns
returns c =
    let r = room c.args.scan.lattice.sized c.requires.line refl in
    seven_mended _ _ _ _ (along_own c.requires.line c.requires.x_bound c.along.ensures)
    (omega (arith, r.fits, c.requires.x_bound, c.requires.tabled)) c.mend_site.ensures
