-- Each turn adds a row. Assumes nothing.
use Prim.Native.Nat.{◌-◌, ◌≤◌}
use Rattle.geometry.specs.Place.{place_of}
use Rattle.filling.specs.Mesh.{row_volume}
use Rattle.sums.proofs.Added.{Added}
use Rattle.sums.proofs.add_up.Given as goal

abbrev pub invariant-loop-i : goal.invariant-loop-i
invariant-loop-i l =
    (l.i ≤ l.count) × Added (row_volume (place_of l.s l.cuts l.state)) l.rows l.i l.sum l.least

abbrev pub decreases-loop-i : goal.decreases-loop-i
decreases-loop-i l = l.count - l.i
