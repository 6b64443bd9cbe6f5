-- The rows of a block as the code orients them: by the winding of a tetrahedron's type and the parity of the order in which a
-- row brings in its corners. That they are the rows of crates/filling, oriented by their six-volumes, is shown in
-- proofs/Oriented.antt.
use Rattle.std.specs.Prelude.{ℕ, List, map, length}
use Rattle.basics.specs.Lists.{gather}
use Rattle.lattice.specs.declared.Sizes.{Sizes}
use Rattle.moving.specs.declared.Label.{Label}
use Rattle.stencil.specs.Tetrahedron.{Tetrahedron, tetrahedra_of}
use Rattle.stencil.specs.Row.{Row, map_row}
use Rattle.stencil.specs.Stencil.{rows_for}
use Rattle.stencil.specs.Id.{id_of}
use Rattle.stencil.specs.inner.Sign.{signed, winds}
use Rattle.filling.specs.Mesh.{labels_in, table}

module _ (s : Sizes) (label : ℕ → Label) where
  -- the rows of a tetrahedron when points have these labels: neither cuts nor places are asked
  unfoldable pub signed_rows : Tetrahedron → List (Row ℕ)
  signed_rows t = map (map_row (id_of s t)) (map (signed (winds t.edge)) (rows_for (labels_in s label t)))

  -- how many rows there are, and the rows as the row table holds them
  unfoldable pub row_total : ℕ
  row_total = length (gather signed_rows (tetrahedra_of s))

  unfoldable pub signed_table : List ℕ
  signed_table = table (gather signed_rows (tetrahedra_of s))
