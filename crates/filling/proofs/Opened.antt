-- Every definition that filling and the place call rest on, opened by one name: a computed fact says `unfolding definitions`.
-- Assumes nothing.
use Rattle.basics.specs.Lists.{gather, from, first_from, count}
use Rattle.basics.specs.cases.Table.{table_of}
use Rattle.lattice.specs.Counts.{sizes_fit, cells, points, tetrahedra}
use Rattle.lattice.specs.Point.{linear, cell, kind_of}
use Rattle.lattice.specs.Direction.{directions, direction, long, is_start, direction_of, step}
use Rattle.lattice.specs.Edge.{stays_in, far_kind, far_index, near, edge_byte}
use Rattle.lattice.specs.Rim.{outermost, rim_at}
use Rattle.moving.specs.Label.{label_of, labels, band_fits, is_plus, is_zero, is_minus, opposed}
use Rattle.moving.specs.Violation.{limit, measured, squared, violation, violated}
use Rattle.moving.specs.State.{is_move, no_move}
use Rattle.moving.specs.Nearest.{nearer, nearest_to}
use Rattle.moving.specs.Reading.{label_after, live, violation_along}
use Rattle.moving.specs.Order.{move_to, turn, move_by}
use Rattle.moving.specs.Moving.{mark_of, choice, outset, state_at}
use Rattle.stencil.specs.Tetrahedron.{unit, around, offset, corner, corner_number, in_turn, in_cube, in_line, in_layer, in_axis, tetrahedra_of}
use Rattle.stencil.specs.Stencil.{cut, choose, stencil_of, rows_of, rows_for}
use Rattle.stencil.specs.Id.{leads_to, code_between, id_of}
use Rattle.geometry.specs.Place.{lattice_place, cut_place, moved_place, point_place, place_of}
use Rattle.geometry.specs.Volume.{cross, dot, triple, six_volume}
use Rattle.filling.specs.Mesh.{row_volume, oriented, rows_in, rows_over}
use Rattle.filling.specs.Check.{rim_fault, crosses_to, cut_fault}
use Rattle.filling.specs.Fill.{moved_count, overwritten, written, fill}
use Rattle.filling.specs.Located.{reaches, believable, stands_to, stands, id_fault, locate}

unfoldable pub definitions : Unit {0}
unfolding
    gather from first_from count table_of
    sizes_fit cells points tetrahedra linear cell kind_of directions direction long is_start direction_of step
    stays_in far_kind far_index near edge_byte outermost rim_at
    label_of labels band_fits is_plus is_zero is_minus opposed limit measured squared violation violated
    is_move no_move label_after live violation_along nearer nearest_to move_to turn move_by mark_of choice outset state_at
    unit around offset corner corner_number in_turn in_cube in_line in_layer in_axis tetrahedra_of
    cut choose stencil_of rows_of rows_for leads_to code_between id_of
    lattice_place cut_place moved_place point_place place_of cross dot triple six_volume
    row_volume oriented rows_in rows_over rim_fault crosses_to cut_fault moved_count overwritten written fill
    reaches believable stands_to stands id_fault locate
definitions = tt
