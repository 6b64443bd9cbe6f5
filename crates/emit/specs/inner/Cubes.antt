-- The tetrahedra between a cube and the next one along an axis, and what is written for them.
use Rattle.std.specs.Prelude.{ℕ, ◌+◌, ◌*◌, ◌≤◌, ◌<◌, ◌≡◌, List, [], ◌∷◌, Bool, pos, eqb, length, get_or, if◌then◌else◌}
use Rattle.std.specs.Int.Signed.{lt_z}
use Rattle.basics.specs.Lists.{gather, below}
use Rattle.lattice.specs.Axis.{xyz}
use Rattle.geometry.specs.Place.{Place}
use Rattle.geometry.specs.Volume.{six_volume}
use Rattle.moving.specs.declared.Label.{Label}
use Rattle.moving.specs.declared.Label.TheVariants.{Zero, Plus}
use Rattle.moving.specs.Label.{is_plus}
use Rattle.stencil.specs.Tetrahedron.{Quarter, q0, q1, q2, q3}
use Rattle.stencil.specs.Stencil.{stencil_of}
use Rattle.stencil.specs.inner.Sign.{winds}
use Rattle.rows.specs.declared.Tetra.{Tetra}
use Rattle.rows.specs.inner.Corners.{most, quarter_at}
use Rattle.rows.specs.inner.Picks.{sum}
use Rattle.rows.specs.inner.Stencils.{row_count, tetra_ids, tetra_most}
use Rattle.emit.specs.declared.Cube.{Cube}

-- one of the six points
abbrev pub point_of : Cube → ℕ → ℕ
point_of c i = get_or c.points i 0

-- the labels of the six points when points have these labels
unfoldable pub cube_labels : (ℕ → Label) → Cube → List Label
cube_labels label c =
    label (point_of c 0)
    ∷ label (point_of c 1)
    ∷ label (point_of c 2)
    ∷ label (point_of c 3)
    ∷ label (point_of c 4)
    ∷ label (point_of c 5)
    ∷ []

-- two corners of the shared face and the two centres, seen along the axis, the next one and the one after, wind positively
abbrev pub winds_with : Place → Place → Bool
winds_with first second =
    lt_z (pos 0) (six_volume first second (xyz (pos 256) (pos 256) (pos 256)) (xyz (pos 768) (pos 256) (pos 256)))

-- which of the six points the corners of the shared face are, in the turn; their numbers, and their labels
abbrev pub face_index : Quarter → ℕ
face_index q0 = 2
face_index q1 = 3
face_index q2 = 4
face_index q3 = 5

abbrev pub face_at : Cube → Quarter → ℕ
face_at c q = point_of c (face_index q)

abbrev pub face_label : List Label → Quarter → Label
face_label l q = get_or l (face_index q) Zero

-- the lower and the upper end of an edge of the turn, and the edge's number
abbrev pub low_end : Quarter → Quarter
low_end q0 = q0
low_end q1 = q1
low_end q2 = q3
low_end q3 = q0

abbrev pub high_end : Quarter → Quarter
high_end q0 = q1
high_end q1 = q2
high_end q2 = q2
high_end q3 = q3

abbrev pub edge_number : Quarter → ℕ
edge_number q0 = 0
edge_number q1 = 1
edge_number q2 = 2
edge_number q3 = 3

-- the tetrahedron of an edge of the turn, its corners ascending, and their labels
abbrev pub quarter_of : Cube → Quarter → Tetra
quarter_of c q =
    record {
      n = c.n;
      axis = c.axis;
      edge = edge_number q;
      corners = face_at c (low_end q) ∷ face_at c (high_end q) ∷ point_of c 0 ∷ point_of c 1 ∷ [];
    }

abbrev pub quarter_labels : List Label → Quarter → List Label
quarter_labels l q = face_label l (low_end q) ∷ face_label l (high_end q) ∷ get_or l 0 Zero ∷ get_or l 1 Zero ∷ []

-- six points of a block of n points
pub record KnownCube (n : ℕ) (c : Cube) : Type 0 where
  pub block : c.n ≡ n
  pub few : n ≤ most
  pub axis_in : c.axis < 3
  pub six : length c.points ≡ 6
  pub points_in : (i : ℕ) → i < 6 → point_of c i < n

-- f at the six points, added up
abbrev pub total : (ℕ → ℕ) → Cube → ℕ
total f c =
    f (point_of c 0) + f (point_of c 1) + (f (point_of c 2) + f (point_of c 3)) + (f (point_of c 4) + f (point_of c 5))

abbrev pub counted : Bool → ℕ
counted b = if b then 1 else 0

module _ (label : ℕ → Label) where
  -- 1 for plus, 0 for any other label
  unfoldable pub plus_at : ℕ → ℕ
  plus_at p = counted (is_plus (label p))

  -- no label in a line of so many points from one on is plus
  abbrev pub Light : ℕ → ℕ → Type 0
  Light from count = (x : ℕ) → x < count → plus_at (from + x) ≡ 0

  -- how many of the six points are plus
  unfoldable pub plus_count : Cube → ℕ
  plus_count c = total plus_at c

-- none of the six points has moved, and none has the mark: their state bytes are all 0
unfoldable pub unmoved : List ℕ → Cube → Bool
unmoved state c = eqb (total (λ p. get_or state p 0) c) 0

-- the labels of six plus points
abbrev pub solid_cube : List Label
solid_cube = Plus ∷ Plus ∷ Plus ∷ Plus ∷ Plus ∷ Plus ∷ []

-- what is written for the tetrahedron of an edge of the turn, by the labels of the six points
unfoldable pub edge_ids : Cube → List Label → ℕ → List ℕ
edge_ids c l e = let q = quarter_at e in tetra_ids (winds q) (quarter_of c q) (quarter_labels l q)

-- how many rows it has, and the four together
unfoldable pub edge_count : List Label → ℕ → ℕ
edge_count l e = row_count (stencil_of (sum (quarter_labels l (quarter_at e))))

unfoldable pub cube_count : List Label → ℕ
cube_count l = edge_count l 0 + edge_count l 1 + edge_count l 2 + edge_count l 3

-- what is written for the four tetrahedra when points have these labels
unfoldable pub cube_ids : (ℕ → Label) → Cube → List ℕ
cube_ids label c = gather (edge_ids c (cube_labels label c)) (below 4)

-- at most so many numbers
abbrev pub cube_most : ℕ
cube_most = 4 * tetra_most

-- a row table that is empty, so that rows are only counted, or has room for m numbers from an index on
pub record Room (l : List ℕ) (at m : ℕ) : Type 0 where
  pub fits : 0 < length l → at + m ≤ length l
