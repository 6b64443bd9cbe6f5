-- Nothing without a plus; four rows where six points are plus and have not moved; else by the labels. Assumes nothing.
use Rattle.basics.proofs.Written.{nothing, same_ids}
use Rattle.emit.proofs.CubeLaws.{own_block, cube_as, cube_room, bare_cube, bare_after, solid_is, solid_after}
use mathlib.Core.Path.{sym, ◌∙◌}
use Rattle.emit.proofs.cubes.write_cube.Goals as goal

pub returns-then-plus-eq0 : goal.returns-then-plus-eq0
returns-then-plus-eq0 c =
    let none = sym c.count_plus-plus.ensures ∙ c.if-plus-eq0.true in
    nothing _ _ (bare_cube _ _ (bare_after _ _ _ none))

pub write_solid_cube-requires : goal.write_solid_cube-requires
write_solid_cube-requires c =
    let six = sym c.count_plus-plus.ensures ∙ c.if-plus-eq6.true in
    let unmoved = sym c.is_unmoved.ensures ∙ c.if-is_unmoved.true in
    let is = solid_is _ _ (solid_after _ _ _ six unmoved) in
    record {
      known_cube = own_block c.requires.known_cube;
      cube_most_bound = c.requires.cube_most_bound;
      room = cube_room _ _ _ _ _ (sym is) c.requires.room;
    }

pub returns-then-is_unmoved : goal.returns-then-is_unmoved
returns-then-is_unmoved c =
    let six = sym c.count_plus-plus.ensures ∙ c.if-plus-eq6.true in
    let unmoved = sym c.is_unmoved.ensures ∙ c.if-is_unmoved.true in
    let is = solid_is _ _ (solid_after _ _ _ six unmoved) in
    same_ids (cube_as _ _ _ (sym is)) c.write_solid_cube.ensures
