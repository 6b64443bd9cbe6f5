-- What the rows and tables of a filled block are like, as far as adding up their six-volumes asks.
use Rattle.std.specs.Prelude.{ℕ, ◌*◌, ◌<◌, ◌≤◌, ◌≡◌, List, pos, nat_abs, ◌<ℤ◌, length}
use Rattle.lattice.specs.declared.Sizes.{Sizes}
use Rattle.moving.specs.Block.{Bytes}
use Rattle.stencil.specs.Tetrahedron.{Vertex}
use Rattle.stencil.specs.Row.{row_at}
use Rattle.geometry.specs.Place.{place_of}
use Rattle.filling.specs.Mesh.{row_volume}
use Rattle.filling.specs.Located.{placed, locate}
use Rattle.filling.specs.Demand.{row_read}
use Rattle.bounds.specs.inner.Most.{volume_most}

-- there are not so many rows
abbrev pub count_most : ℕ
count_most = 4294967296

-- the place call answers an id with the place that rows are measured by
pub record Standing (s : Sizes) (cuts state : List ℕ) (id : ℕ) : Type 0 where
  pub bytes : Bytes cuts
  pub answered : locate s cuts state id ≡ placed (place_of s cuts state id)

pub record Measured (s : Sizes) (cuts state rows : List ℕ) (count : ℕ) : Type 0 where
  pub room : 4 * count ≤ length rows
  pub few : count < count_most
  pub standing : (i : ℕ) → i < count → (v : Vertex) → Standing s cuts state (row_at (row_read rows i) v)
  pub positive : (i : ℕ) → i < count → pos 0 <ℤ row_volume (place_of s cuts state) (row_read rows i)
  pub small : (i : ℕ) → i < count → nat_abs (row_volume (place_of s cuts state) (row_read rows i)) ≤ volume_most
