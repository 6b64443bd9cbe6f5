-- Which edges cross, and where they lead. Assumes nothing.
use mathlib.Core.Path.{refl}
use Rattle.patch.proofs.Site.{site_ends, site_mended}
use Rattle.patch.proofs.table.mend_site.Goals as goal

pub mend_seven-requires-clause-ends : goal.mend_seven-requires-clause-ends
mend_seven-requires-clause-ends c =
    let a = c.args.scan in
    site_ends a.band a.lattice.sizes a.samples.now c.args.q a.lattice.sized a.sampled c.requires.sited refl refl c.crossing_ends.ensures

pub returns : goal.returns
returns c =
    let a = c.args.scan in
    site_mended a.band a.lattice.sizes a.samples.now c.args.q a.lattice.sized a.sampled c.requires.sited refl refl c.crossing_ends.ensures
    c.mend_seven.ensures
