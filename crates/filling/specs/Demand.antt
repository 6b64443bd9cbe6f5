-- The customer's third demand, on document 01's rows: of all rows together each face belongs to exactly two rows, which wind it opposite
-- ways, or to exactly one, and then its three corners lie on the skin; and each row's volume, with points moved, is above zero. (`T b` says
-- that the test b is true.)
use Rattle.std.specs.Prelude.{ℕ, ◌+◌, ◌*◌, ◌<◌, ◌≡◌, ◌⊎◌, List, map, length, get_or, pos, T, ◌<ℤ◌, Some}
use Rattle.basics.specs.Lists.{below}
use Rattle.lattice.specs.Counts.{points}
use Rattle.lattice.specs.Direction.{as_start}
use Rattle.lattice.specs.Edge.{neighbour, byte_at}
use Rattle.moving.specs.declared.Label.TheVariants.{Zero}
use Rattle.moving.specs.State.{is_move}
use Rattle.moving.specs.Reading.{Reading}
use Rattle.moving.specs.Moving.{state_of}
use Rattle.stencil.specs.Tetrahedron.{Vertex}
use Rattle.stencil.specs.Row.{Row, row, Third, face_of, face_at, Opposite, Holds}
use Rattle.stencil.specs.Id.{cut_id}
use Rattle.geometry.specs.Place.{Place}
use Rattle.filling.specs.Mesh.{row_volume}

-- the i-th row of a list
abbrev pub nth_row : List (Row ℕ) → ℕ → Row ℕ
nth_row rows i = get_or rows i (row 0 0 0 0)

-- the i-th row as a row table holds it, and the first n rows: "A row is four 32-bit ids"
abbrev pub row_read : List ℕ → ℕ → Row ℕ
row_read table i = row (get_or table (4 * i) 0) (get_or table (4 * i + 1) 0) (get_or table (4 * i + 2) 0) (get_or table (4 * i + 3) 0)

unfoldable pub rows_read : List ℕ → ℕ → List (Row ℕ)
rows_read table n = map (row_read table) (below n)

-- "faces with the same three ids, in any order, are the same face, and it belongs to each row that holds all three": the face of the
-- i-th row that leaves out its corner v
pub data FaceFits (rows : List (Row ℕ)) (Skin : ℕ → Type 0) (i : ℕ) (v : Vertex) : Type 0 where
  -- it belongs to the i-th row and to one other, the j-th, which winds it the opposite way
  shared : (j : ℕ) (w : Vertex) → j < length rows → (i ≡ j → ⊥)
      → Opposite (face_of (nth_row rows i) v) (face_of (nth_row rows j) w)
      → ((k : ℕ) → k < length rows → Holds (nth_row rows k) (face_of (nth_row rows i) v) → (k ≡ i) ⊎ (k ≡ j))
      → FaceFits rows Skin i v
  -- it belongs to the i-th row alone, and its three corners lie on the skin
  boundary : ((k : ℕ) → k < length rows → Holds (nth_row rows k) (face_of (nth_row rows i) v) → k ≡ i)
      → ((t : Third) → Skin (face_at (face_of (nth_row rows i) v) t))
      → FaceFits rows Skin i v

pub record Conforms (rows : List (Row ℕ)) (place : ℕ → Place) (Skin : ℕ → Type 0) : Type 0 where
  pub faces : (i : ℕ) → i < length rows → (v : Vertex) → FaceFits rows Skin i v
  pub volumes : (i : ℕ) → i < length rows → pos 0 <ℤ row_volume place (nth_row rows i)

-- the skin (the isosurface; the word is F-3's and F-8's): a cut point, a point that the rules move, or a point whose label is zero from the
-- start, that is, whose sample's size is at most the band. F-3: "The face rule now counts an in-band point as lying on the skin"
pub data OnSkin (m : Reading) (id : ℕ) : Type 0 where
  -- "A cut point is the cut of an edge": the edge from p in direction d exists, its byte is not zero, and this is its id
  a_cut : (p d q : ℕ) → p < points m.sizes → d < 7 → neighbour m.sizes p (as_start d) ≡ Some q
      → (get_or m.cuts (byte_at p d) 0 ≡ 0 → ⊥) → id ≡ cut_id m.sizes p d → OnSkin m id
  -- "a moved point is one that the rules above move in this block, and is not read off the state table"
  a_moved_point : id < points m.sizes → T (is_move (get_or (state_of m) id 0)) → OnSkin m id
  a_zero_label : id < points m.sizes → m.label id ≡ Zero → OnSkin m id
