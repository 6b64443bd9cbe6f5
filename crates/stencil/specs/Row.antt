-- Rows of four, their faces, and which way round a face is wound.
use Rattle.std.specs.Prelude.{◌≡◌}
use Rattle.stencil.specs.Tetrahedron.{Vertex, v0, v1, v2, v3}

pub data Row (A : Type 0) : Type 0 where
  row : A → A → A → A → Row A

-- three corners in a winding
pub data Face (A : Type 0) : Type 0 where
  face : A → A → A → Face A

-- the three corners of a face
pub data Third : Type 0 where
  t0 t1 t2 : Third

module _ {A : Type 0} where
  abbrev pub row_at : Row A → Vertex → A
  row_at (row a b c d) v0 = a
  row_at (row a b c d) v1 = b
  row_at (row a b c d) v2 = c
  row_at (row a b c d) v3 = d

  abbrev pub face_at : Face A → Third → A
  face_at (face x y z) t0 = x
  face_at (face x y z) t1 = y
  face_at (face x y z) t2 = z

  -- "A row a b c d winds its faces outward as bcd, adc, abd, acb": the face that leaves out a corner
  abbrev pub face_of : Row A → Vertex → Face A
  face_of (row a b c d) v0 = face b c d
  face_of (row a b c d) v1 = face a d c
  face_of (row a b c d) v2 = face a b d
  face_of (row a b c d) v3 = face a c b

  -- "turning a face's three corners round in a cycle is the same winding"
  abbrev pub cycled : Third → Face A → Face A
  cycled t0 (face x y z) = face x y z
  cycled t1 (face x y z) = face y z x
  cycled t2 (face x y z) = face z x y

  -- two corners exchanged
  abbrev pub exchanged : Face A → Face A
  exchanged (face x y z) = face x z y

  -- "Two rows wind it opposite ways if exchanging two corners in the one's winding gives the other's"
  abbrev pub Opposite : Face A → Face A → Type 0
  Opposite f g = (r : Third) × (g ≡ exchanged (cycled r f))

  -- "it belongs to each row that holds all three"
  abbrev pub Holds : Row A → Face A → Type 0
  Holds r f = (t : Third) → (v : Vertex) × (row_at r v ≡ face_at f t)

  -- "The last two corners change places"
  abbrev pub swapped : Row A → Row A
  swapped (row a b c d) = row a b d c

module _ {A B : Type 0} (f : A → B) where
  abbrev pub map_row : Row A → Row B
  map_row (row a b c d) = row (f a) (f b) (f c) (f d)
