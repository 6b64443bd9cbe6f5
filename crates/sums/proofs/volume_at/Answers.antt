-- The four corners' six-volume, which is above zero, without its sign. Assumes nothing.
use mathlib.Core.Path.{◌∙◌}
use Rattle.stencil.specs.Tetrahedron.{v0, v1, v2, v3}
use Rattle.sums.proofs.Volume.{corners_volume, cast_fits, cast_is, cast_small}
use Rattle.sums.proofs.volume_at.Goals as goal

pub stand-a-requires : goal.stand-a-requires
stand-a-requires c =
    c.requires.measured.standing c.args.i c.requires.i_lt_count v0

pub stand-b-requires : goal.stand-b-requires
stand-b-requires c =
    c.requires.measured.standing c.args.i c.requires.i_lt_count v1

pub stand-c-requires : goal.stand-c-requires
stand-c-requires c =
    c.requires.measured.standing c.args.i c.requires.i_lt_count v2

pub stand-d-requires : goal.stand-d-requires
stand-d-requires c =
    c.requires.measured.standing c.args.i c.requires.i_lt_count v3

pub overflow_cast-result : goal.overflow_cast-result
overflow_cast-result c =
    let i = c.args.i in
    let by = corners_volume _ _ _ _ _ c.stand-a.ensures.result_value c.stand-b.ensures.result_value in
    let is = c.six_volume-v.ensures ∙ by c.stand-c.ensures.result_value c.stand-d.ensures.result_value in
    let up = c.requires.measured.positive i c.requires.i_lt_count in
    cast_fits c.six_volume-v.result c.six_volume-v.type_inv is up (c.requires.measured.small i c.requires.i_lt_count)

pub returns : goal.returns
returns c =
    let i = c.args.i in
    let by = corners_volume _ _ _ _ _ c.stand-a.ensures.result_value c.stand-b.ensures.result_value in
    let is = c.six_volume-v.ensures ∙ by c.stand-c.ensures.result_value c.stand-d.ensures.result_value in
    let up = c.requires.measured.positive i c.requires.i_lt_count in
    let small = c.requires.measured.small i c.requires.i_lt_count in record {
      result_value = cast_is c.six_volume-v.result c.six_volume-v.type_inv is up small;
      upper_bound = cast_small c.six_volume-v.result c.six_volume-v.type_inv is up small;
    }
