-- One coordinate an axis. Assumes nothing.
use Rattle.lattice.specs.inner.Site.{index}
use Rattle.geometry.specs.Place.{lattice_place}
use Rattle.triple.proofs.Box.{place_is}
use Rattle.places.proofs.Standing.{rested}
use Rattle.places.proofs.points.rest_place.Goals as goal

pub returns-clause-result_value : goal.returns-clause-result_value
unfolding lattice_place
returns-clause-result_value c =
    let k = c.args.q.kind in
    let x = rested k c.odd-odd.ensures c.requires.0 c.coordinate.type_inv c.coordinate.ensures in
    let y = rested k c.odd-odd.ensures c.requires.1 c.coordinate-2.type_inv c.coordinate-2.ensures in
    let z = rested k c.odd-odd.ensures c.requires.2 c.coordinate-3.type_inv c.coordinate-3.ensures in
    place_is (lattice_place k (index c.args.q)) x.eq y.eq z.eq
