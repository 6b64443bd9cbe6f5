-- Document 02, F-7: the boundary of a list of rows. "the sum equals the sum over faces in one row only of the triple
-- product of their three corners, wound outward; and among those faces each edge is run equally often each way".
--     HalfFace, half_faces    a face as one row has it; all of them
--     has_id, belongs         whether a face belongs to a row
--     alone                  whether it belongs to its own row only
--     boundary_faces          the faces in one row only
--     face_volume, runs       what is added up and counted over them
use Rattle.std.specs.Prelude.{ℕ, Bool, not, ◌&&◌, ◌||◌, List, [], ◌∷◌, length, ℤ, eqb, if◌then◌else◌}
use Rattle.basics.specs.Lists.{gather, below, count}
use Rattle.stencil.specs.Tetrahedron.{Vertex, v0, v1, v2, v3}
use Rattle.stencil.specs.Row.{Row, row, Face, face, face_of}
use Rattle.geometry.specs.Place.{Place}
use Rattle.geometry.specs.Volume.{triple}
use Rattle.filling.specs.Demand.{nth_row}

-- a face as one row has it: the row's number, and the corner of the row that the face leaves out
abbrev pub HalfFace : Type 0
HalfFace = ℕ × Vertex

abbrev pub four_of : ℕ → List HalfFace
four_of i = (i, v0) ∷ (i, v1) ∷ (i, v2) ∷ (i, v3) ∷ []

-- the half-faces of n rows
unfoldable pub half_faces : ℕ → List HalfFace
half_faces n = gather four_of (below n)

-- document 01: a face "belongs to each row that holds all three" of its ids, in any order
unfoldable pub has_id : Row ℕ → ℕ → Bool
has_id (row a b c d) x = eqb a x || (eqb b x || (eqb c x || eqb d x))

unfoldable pub belongs : Row ℕ → Face ℕ → Bool
belongs r (face x y z) = has_id r x && (has_id r y && has_id r z)

module _ (rows : List (Row ℕ)) where
  -- the three ids, "wound outward"
  abbrev pub outward : HalfFace → Face ℕ
  outward x = face_of (nth_row rows x.0) x.1

  -- the face belongs to the k-th row besides its own
  unfoldable pub also_in : HalfFace → ℕ → Bool
  also_in x k = not (eqb k x.0) && belongs (nth_row rows k) (outward x)

  -- no row besides its own has it
  unfoldable pub alone : HalfFace → Bool
  alone x = eqb (count (also_in x) (length rows)) 0

  unfoldable pub if_alone : HalfFace → List (Face ℕ)
  if_alone x = if alone x then outward x ∷ [] else []

  -- "faces in one row only", "wound outward"
  unfoldable pub boundary_faces : List (Face ℕ)
  boundary_faces = gather if_alone (half_faces (length rows))

-- "the triple product of their three corners"
unfoldable pub face_volume : (ℕ → Place) → Face ℕ → ℤ
face_volume place (face x y z) = triple (place x) (place y) (place z)

-- "run": a face x y z runs from x to y, from y to z and from z to x
unfoldable pub runs : ℕ → ℕ → Face ℕ → Bool
runs p q (face x y z) = (eqb x p && eqb y q) || ((eqb y p && eqb z q) || (eqb z p && eqb x q))
