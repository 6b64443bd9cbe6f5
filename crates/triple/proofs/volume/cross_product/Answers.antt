-- Every product and every difference of two stays in its box. Assumes nothing.
use Rattle.lattice.specs.Axis.{along_x, along_y, along_z}
use Rattle.geometry.specs.Volume.{cross}
use Rattle.triple.specs.inner.Places.{place_at}
use Rattle.triple.proofs.Box.{at, mul_fits, sub_fits, place_is, box_of}
use Rattle.triple.proofs.Terms.{product, minor}
use Rattle.triple.proofs.volume.cross_product.Goals as goal

pub overflow_mul-result : goal.overflow_mul-result
overflow_mul-result c =
    mul_fits (at c.requires.in_box tt along_y) (at c.requires.in_box_2 tt along_z) tt

pub overflow_mul-result-2 : goal.overflow_mul-result-2
overflow_mul-result-2 c =
    mul_fits (at c.requires.in_box tt along_z) (at c.requires.in_box_2 tt along_y) tt

pub overflow_sub-result : goal.overflow_sub-result
overflow_sub-result c =
    sub_fits (product c.requires.in_box c.requires.in_box_2 along_y along_z) (product c.requires.in_box c.requires.in_box_2 along_z along_y) tt

pub overflow_mul-result-3 : goal.overflow_mul-result-3
overflow_mul-result-3 c =
    mul_fits (at c.requires.in_box tt along_z) (at c.requires.in_box_2 tt along_x) tt

pub overflow_mul-result-4 : goal.overflow_mul-result-4
overflow_mul-result-4 c =
    mul_fits (at c.requires.in_box tt along_x) (at c.requires.in_box_2 tt along_z) tt

pub overflow_sub-result-2 : goal.overflow_sub-result-2
overflow_sub-result-2 c =
    sub_fits (product c.requires.in_box c.requires.in_box_2 along_z along_x) (product c.requires.in_box c.requires.in_box_2 along_x along_z) tt

pub overflow_mul-result-5 : goal.overflow_mul-result-5
overflow_mul-result-5 c =
    mul_fits (at c.requires.in_box tt along_x) (at c.requires.in_box_2 tt along_y) tt

pub overflow_mul-result-6 : goal.overflow_mul-result-6
overflow_mul-result-6 c =
    mul_fits (at c.requires.in_box tt along_y) (at c.requires.in_box_2 tt along_x) tt

pub overflow_sub-result-3 : goal.overflow_sub-result-3
overflow_sub-result-3 c =
    sub_fits (product c.requires.in_box c.requires.in_box_2 along_x along_y) (product c.requires.in_box c.requires.in_box_2 along_y along_x) tt

pub returns : goal.returns
unfolding cross
returns c =
    let x = minor c.requires.in_box c.requires.in_box_2 along_y along_z in
    let y = minor c.requires.in_box c.requires.in_box_2 along_z along_x in
    let z = minor c.requires.in_box c.requires.in_box_2 along_x along_y in
    record {
      result_value = place_is (cross (place_at c.args.v) (place_at c.args.w)) x.eq y.eq z.eq;
      in_box_3 = box_of x y z;
    }
