-- Document 01, "Lattice tetrahedra and rows": the rows of a block, one after the other.
use Rattle.std.specs.Prelude.{ℕ, List, [], ◌∷◌, map, ℤ, pos, if◌then◌else◌}
use Rattle.std.specs.Int.Signed.{lt_z}
use Rattle.basics.specs.Lists.{gather}
use Rattle.lattice.specs.declared.Sizes.{Sizes}
use Rattle.moving.specs.declared.Label.{Label}
use Rattle.moving.specs.Reading.{Reading, label_after}
use Rattle.moving.specs.Moving.{state_of}
use Rattle.stencil.specs.Tetrahedron.{Tetrahedron, Vertex, corner_number, tetrahedra_of}
use Rattle.stencil.specs.Row.{Row, row, swapped, map_row}
use Rattle.stencil.specs.Stencil.{rows_for}
use Rattle.stencil.specs.Id.{id_of}
use Rattle.geometry.specs.Place.{Place, place_of}
use Rattle.geometry.specs.Volume.{six_volume}

unfoldable pub row_volume : (ℕ → Place) → Row ℕ → ℤ
row_volume place (row a b c d) = six_volume (place a) (place b) (place c) (place d)

-- "The last two corners change places exactly if the six-volume would be negative"
unfoldable pub oriented : (ℕ → Place) → Row ℕ → Row ℕ
oriented place r = if lt_z (row_volume place r) (pos 0) then swapped r else r

module _ (s : Sizes) (label : ℕ → Label) where
  -- the labels of a tetrahedron's four corners
  abbrev pub labels_in : Tetrahedron → Vertex → Label
  labels_in t v = label (corner_number s t v)

  module _ (place : ℕ → Place) where
    -- the rows of a tetrahedron, and of all of them, when points have these labels and ids these places
    unfoldable pub rows_in : Tetrahedron → List (Row ℕ)
    rows_in t = map (oriented place) (map (map_row (id_of s t)) (rows_for (labels_in t)))

    unfoldable pub rows_over : List (Row ℕ)
    rows_over = gather rows_in (tetrahedra_of s)

-- the rows when the points have moved by these codes
abbrev pub rows_with : Reading → List ℕ → List (Row ℕ)
rows_with m codes = rows_over m.sizes (label_after m.label codes) (place_of m.sizes m.cuts codes)

-- the rows of a block: its points moved as the rules say
abbrev pub mesh_of : Reading → List (Row ℕ)
mesh_of m = rows_with m (state_of m)

-- "A row is four 32-bit ids": the rows as the row table holds them
abbrev pub ids : Row ℕ → List ℕ
ids (row a b c d) = a ∷ b ∷ c ∷ d ∷ []

abbrev pub table : List (Row ℕ) → List ℕ
table rows = gather ids rows
