-- What the ids in the rows of an accepted block are, with labels as moving leaves them. Assumes that cut bytes are bytes, and nothing else.
use Prim.Native.Nat.{ℕ, ◌<◌}
use mathlib.Core.Path.{sym, subst}
use mathlib.Core.List.{List}
use lib.ListN.{length}
use Rattle.moving.specs.Moving.{state_of}
use Rattle.moving.specs.Block.{Block, Bytes, reading_of}
use Rattle.moving.proofs.Moved.{state_reached}
use Rattle.stencil.specs.Tetrahedron.{Vertex}
use Rattle.stencil.specs.Row.{Row, row_at}
use Rattle.filling.specs.Check.{Accepted}
use Rattle.filling.specs.Mesh.{mesh_of}
use Rattle.filling.specs.Demand.{nth_row}
use Rattle.filling.proofs.Fits.{accepted_fits}
use Rattle.faces.proofs.RowIds.{RowId, row_ids_law}
use Rattle.conformity.proofs.Bridge.{limit_reach, final_label, sound}
use Rattle.conformity.proofs.Rows.{mesh_is}

-- a point that is not minus, or the cut of an edge between a plus and a minus point
pub mesh_ids : (band : ℕ) (b : Block) → Bytes b.cuts → Accepted band b
    → (i : ℕ) → i < length (mesh_of (reading_of band b)) → (v : Vertex)
    → RowId b.sizes (final_label (reading_of band b) (state_of (reading_of band b))) (row_at (nth_row (mesh_of (reading_of band b)) i) v)
mesh_ids band b bytes h =
    let m = reading_of band b in
    let label = final_label m (state_of m) in
    let is-sound = sound (state_of m) (accepted_fits band b h) bytes limit_reach (state_reached m) in
    subst (λ (rows : List (Row ℕ)). (i : ℕ) → i < length rows → (v : Vertex) → RowId b.sizes label (row_at (nth_row rows i) v))
    (sym (mesh_is is-sound)) (row_ids_law b.sizes label)
