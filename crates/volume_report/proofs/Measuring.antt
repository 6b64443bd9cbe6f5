-- The volumes of a block that was filled, from what adding up answers. Assumes nothing.
use Prim.Native.Nat.{ℕ, ◌*◌, ◌≤◌}
use native.Mathlib.Omega.{arith}
use mathlib.Core.Path.{◌≡◌, ap}
use mathlib.Core.List.{List}
use lib.IntN.{pos, nat_abs}
use lib.ListN.{take}
use Rattle.lattice.specs.declared.Sizes.{Sizes}
use Rattle.lattice.specs.Counts.{points}
use Rattle.geometry.specs.Place.{place_of}
use Rattle.filling.specs.Mesh.{row_volume}
use Rattle.filling.specs.Demand.{rows_read}
use Rattle.boundary.specs.Sum.{sum, smallest}
use Rattle.fill_file.specs.program.Summary.{Summary}
use Rattle.volume_report.specs.program.Report.{Entry, measured}
use Rattle.bounds.specs.inner.Most.{volume_most, rows_most}
use Rattle.volume_report.specs.inner.Small.{Small}

-- the code holds N in a local
module _ (s : Sizes) (cuts state rows : List ℕ) {n : ℕ} (p : n ≡ points s) where
  pub measured_is : (end : ℕ) (f : Summary) {total least : ℕ}
      → pos total ≡ sum (row_volume (place_of s (take (7 * n) cuts) (take n state))) (rows_read rows f.emitted)
      → pos least ≡ smallest (row_volume (place_of s (take (7 * n) cuts) (take n state))) (rows_read rows f.emitted)
      → record { number = 0; place = 0; tetrahedra = f.emitted; moved = f.moved; sum = total; smallest = least; end = end }
      ≡ measured s end f cuts state rows
  unfolding measured
  measured_is end f {total} {least} e g =
      let volume = row_volume (place_of s (take (7 * points s) cuts) (take (points s) state)) in
      let mesh = rows_read rows f.emitted in
      let a : total ≡ nat_abs (sum volume mesh) = rw (← p) (ap nat_abs e) in
      let b : least ≡ nat_abs (smallest volume mesh) = rw (← p) (ap nat_abs g) in
      λ i. record { number = 0; place = 0; tetrahedra = f.emitted; moved = f.moved; sum = a i; smallest = b i; end = end }

pub small_is : (e : Entry) → e.tetrahedra ≤ rows_most → e.sum ≤ volume_most * e.tetrahedra → Small e
small_is e h g = record { rows = h; sums = omega (arith, g, h) }
