-- Each way out by the checks that led there. Assumes nothing.
use mathlib.Core.Path.{sym, ◌∙◌}
use native.Mathlib.Omega.{arith}
use Rattle.lattice.proofs.Bounds.{points_small}
use Rattle.blockfile.proofs.Parts.{well_formed_law, first_end}
use Rattle.blockfile.proofs.Outcome.{refused_room, refused_file, refuse_samples, refuse_cuts, refuse_file, taken_as}
use Rattle.blockfile.proofs.file.check_body.Goals as goal

pub returns-then-samples-n : goal.returns-then-samples-n
returns-then-samples-n c = refused_room (refuse_samples _ _ _ _ c.point_count-n.ensures c.if-samples-n.true)

pub overflow_mul-n : goal.overflow_mul-n
overflow_mul-n c = omega (arith, points_small _ c.args.lattice.sized, c.point_count-n.ensures)

pub returns-then-cuts-n : goal.returns-then-cuts-n
returns-then-cuts-n c =
    refused_room (refuse_cuts _ _ _ _ c.point_count-n.ensures c.if-samples-n.false c.if-cuts-n.true)

pub is_well_formed-requires : goal.is_well_formed-requires
is_well_formed-requires c = omega (arith, points_small _ c.args.lattice.sized, c.point_count-n.ensures)

pub returns-then-not-is_well_formed : goal.returns-then-not-is_well_formed
returns-then-not-is_well_formed c =
    refused_file
    (refuse_file _ _ _ _ c.point_count-n.ensures c.if-samples-n.false c.if-cuts-n.false
    (sym c.is_well_formed.ensures ∙ c.if-not-is_well_formed.true))

pub end_of-requires : goal.end_of-requires
end_of-requires c =
    let bytes = c.args.bytes.now in
    let n = c.point_count-n.result in
    let w = well_formed_law bytes n (sym c.is_well_formed.ensures ∙ c.if-not-is_well_formed.false) in
    (omega (arith, points_small _ c.args.lattice.sized, c.point_count-n.ensures), omega (arith, w.long, first_end bytes n))

pub returns : goal.returns
returns c =
    taken_as _ _ _ _ c.point_count-n.ensures c.if-samples-n.false c.if-cuts-n.false
    (sym c.is_well_formed.ensures ∙ c.if-not-is_well_formed.false) c.end_of.ensures
