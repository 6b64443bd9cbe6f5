-- Every product and every sum stays in its box. Assumes nothing.
use Rattle.lattice.specs.Axis.{along_x, along_y, along_z}
use Rattle.geometry.specs.Volume.{dot}
use Rattle.triple.proofs.Box.{add_is, add_fits}
use Rattle.triple.proofs.Terms.{scaled}
use Rattle.triple.proofs.volume.dot_product.Goals as goal

pub overflow_add-result : goal.overflow_add-result
overflow_add-result c =
    let term = scaled c.requires.in_box c.requires.in_box_2 in
    add_fits (term along_y) (term along_z) tt

pub overflow_add-result-2 : goal.overflow_add-result-2
overflow_add-result-2 c =
    let term = scaled c.requires.in_box c.requires.in_box_2 in
    add_fits (term along_x) (add_is (term along_y) (term along_z) tt) tt

pub returns : goal.returns
unfolding dot
returns c =
    let term = scaled c.requires.in_box c.requires.in_box_2 in
    (add_is (term along_x) (add_is (term along_y) (term along_z) tt) tt).eq
