-- Every difference stays in its box. Assumes nothing.
use Rattle.lattice.specs.Axis.{along_x, along_y, along_z}
use Rattle.geometry.specs.Volume.{difference}
use Rattle.triple.specs.inner.Places.{place_at}
use Rattle.triple.proofs.Box.{place_is, box_of}
use Rattle.triple.proofs.Terms.{led}
use Rattle.triple.proofs.volume.difference.Goals as goal

pub returns : goal.returns
returns c =
    let x = led c.requires.in_box c.requires.in_box_2 along_x in
    let y = led c.requires.in_box c.requires.in_box_2 along_y in
    let z = led c.requires.in_box c.requires.in_box_2 along_z in
    record {
      result_value = place_is (difference (place_at c.args.p) (place_at c.args.q)) x.eq y.eq z.eq;
      in_box_3 = box_of x y z;
    }
