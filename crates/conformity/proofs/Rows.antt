-- The rows of a block are the rows that the winding of each lattice tetrahedron decides, and each of them has a six-volume above zero.
-- Assumes nothing.
use Prim.Native.Nat.{ℕ, ◌<◌}
use native.Mathlib.Omega.{arith}
use mathlib.Core.Path.{◌≡◌}
use mathlib.Core.List.{List, map}
use lib.IntN.{pos}
use lib.Signed.{◌<ℤ◌}
use lib.ListN.{length, length-map}
use Rattle.basics.specs.Lists.{gather}
use Rattle.basics.proofs.Gather.{Found, find, found_get, found_in, found_member}
use Rattle.basics.proofs.Mapped.{map_at, gather_same}
use Rattle.lattice.specs.declared.Sizes.{Sizes}
use Rattle.moving.specs.declared.Label.{Label}
use Rattle.stencil.specs.Tetrahedron.{Tetrahedron, Vertex, v0, tetrahedra_of}
use Rattle.stencil.specs.Row.{Row, row, map_row}
use Rattle.stencil.specs.Stencil.{Entry, rows_for, point}
use Rattle.stencil.specs.Id.{id_of}
use Rattle.stencil.specs.inner.Sign.{signed, winds}
use Rattle.stencil.proofs.Valid.{Valid}
use Rattle.stencil.proofs.Listed.{listed_valid}
use Rattle.geometry.specs.Place.{Place}
use Rattle.filling.specs.Mesh.{row_volume, labels_in, rows_in, rows_over}
use Rattle.filling.specs.Demand.{nth_row}
use Rattle.volumes.proofs.Sound.{Sound}
use Rattle.volumes.proofs.Volumes.{oriented_rows, positive}
use Rattle.faces.proofs.Signed.{signed_in, signed_rows}

module _ {s : Sizes} {label : ℕ → Label} {byte : ℕ → ℕ} {place : ℕ → Place} (sound : Sound s label byte place) where
  pub mesh_is : rows_over s label place ≡ signed_rows s label
  unfolding rows_over rows_in signed_rows signed_in
  mesh_is =
      gather_same (rows_in s label place) (signed_in s label) (tetrahedra_of s) (λ t m. oriented_rows sound t (listed_valid s t m))

  -- a row of one tetrahedron
  row_positive : (t : Tetrahedron) → Valid s t → (r : ℕ) → r < length (signed_in s label t)
      → pos 0 <ℤ row_volume place (nth_row (signed_in s label t) r)
  unfolding signed_in
  row_positive t v r h =
      rw (map_at ids turned r any (row 0 0 0 0) long, map_at turn rows r any any inside) (positive sound t v r inside any)
    where
      rows : List (Row (Entry Vertex))
      rows = rows_for (labels_in s label t)

      turn : Row (Entry Vertex) → Row (Entry Vertex)
      turn = signed (winds t.edge)

      turned : List (Row (Entry Vertex))
      turned = map turn rows

      ids : Row (Entry Vertex) → Row ℕ
      ids = map_row (id_of s t)

      any : Row (Entry Vertex)
      any = row (point v0) (point v0) (point v0) (point v0)

      inside : r < length rows
      inside = omega (arith, length-map rows turn, length-map turned ids, h)

      long : r < length turned
      long = omega (arith, inside, length-map rows turn)

  pub rows_positive : (i : ℕ) → i < length (signed_rows s label) → pos 0 <ℤ row_volume place (nth_row (signed_rows s label) i)
  unfolding signed_rows
  rows_positive i h = go (find f (tetrahedra_of s) i h)
    where
      f : Tetrahedron → List (Row ℕ)
      f = signed_in s label

      go : (t : Tetrahedron) × (r : ℕ) × Found f t r (tetrahedra_of s) i
          → pos 0 <ℤ row_volume place (nth_row (gather f (tetrahedra_of s)) i)
      go (t, r, u) =
          rw (found_get f (row 0 0 0 0) u) (row_positive t (listed_valid s t (found_member f u)) r (found_in f u))
