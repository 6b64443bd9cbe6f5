-- Document 02, F-7, "Prove besides, for every accepted block": of the rows as filling leaves them in the row table, T
-- of them, with points placed by the state table that it leaves. Assumes that cut bytes are bytes, and nothing else.
--     volume_enclosed     "the sum equals the sum over faces in one row only of the triple product of their three
--                         corners, wound outward"
--     boundary_closed     "and among those faces each edge is run equally often each way"
--     boundary_on_skin    their corners lie on the skin
--     boundary_once       none is listed twice
-- Besides, of any rows at all:
--     boundary_is         those faces are in one row only: of the i-th, and no other row holds the three ids
--     boundary_has        and each face in one row only is among them
use Prim.Native.Nat.{ℕ, ◌<◌}
use mathlib.Core.Path.{◌≡◌}
use mathlib.Core.List.{List}
use lib.ListN.{length}
use Rattle.basics.proofs.Test.{Member}
use Rattle.basics.proofs.Gather.{NoRepeats}
use Rattle.moving.specs.Block.{Block, Bytes, reading_of}
use Rattle.stencil.specs.Tetrahedron.{Vertex}
use Rattle.stencil.specs.Row.{Row, Face, Third, face_at, face_of, Holds}
use Rattle.geometry.specs.Place.{Place, place_of}
use Rattle.filling.specs.Mesh.{row_volume}
use Rattle.filling.specs.Fill.{fill}
use Rattle.filling.specs.Demand.{nth_row, rows_read, OnSkin}
use Rattle.conformity.proofs.Demand3.{demand_3_written}
use Rattle.boundary.specs.Sum.{sum, how_many}
use Rattle.boundary.specs.Boundary.{boundary_faces, face_volume, runs}
use Rattle.boundary.proofs.Listed.{in_one_row, one_row_listed, listed_once}
use Rattle.boundary.proofs.Boundary.{encloses, closed, on_skin}

module _ (band : ℕ) (b : Block) (state rows : List ℕ) where
  -- what filling leaves
  abbrev pub rows' : List (Row ℕ)
  rows' = rows_read (fill band b state rows).rows (fill band b state rows).answer.rows

  abbrev pub place : ℕ → Place
  place = place_of b.sizes b.cuts (fill band b state rows).state

  module _ (bytes : Bytes b.cuts) (accepted : (fill band b state rows).answer.number ≡ 0) where
    pub volume_enclosed : sum (row_volume place) rows' ≡ sum (face_volume place) (boundary_faces rows')
    volume_enclosed = encloses (demand_3_written band b state rows bytes accepted)

    pub boundary_closed : (p q : ℕ)
        → how_many (runs p q) (boundary_faces rows') ≡ how_many (runs q p) (boundary_faces rows')
    boundary_closed = closed (demand_3_written band b state rows bytes accepted)

    pub boundary_on_skin : (g : Face ℕ) → Member g (boundary_faces rows') → (t : Third)
        → OnSkin (reading_of band b) (face_at g t)
    boundary_on_skin = on_skin (demand_3_written band b state rows bytes accepted)

    pub boundary_once : NoRepeats (boundary_faces rows')
    boundary_once = listed_once (demand_3_written band b state rows bytes accepted)

module _ (rows : List (Row ℕ)) where
  pub boundary_is : (g : Face ℕ) → Member g (boundary_faces rows)
      → (i : ℕ) × (v : Vertex) × (i < length rows) × (face_of (nth_row rows i) v ≡ g)
      × ((k : ℕ) → k < length rows → Holds (nth_row rows k) g → k ≡ i)
  boundary_is = in_one_row rows

  pub boundary_has : (i : ℕ) (v : Vertex) → i < length rows
      → ((k : ℕ) → k < length rows → Holds (nth_row rows k) (face_of (nth_row rows i) v) → k ≡ i)
      → Member (face_of (nth_row rows i) v) (boundary_faces rows)
  boundary_has = one_row_listed rows
