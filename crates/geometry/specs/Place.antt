-- Document 01, "The block" and "Moving points": the places of points and of cuts, with points moved.
use Rattle.std.specs.Prelude.{ℕ, ◌*◌, ◌-◌, ◌/◌, ◌%◌, List, get_or, ltb, ℤ, pos, ◌+ℤ◌, ◌-ℤ◌, ◌*ℤ◌, if◌then◌else◌, Option, Some, None}
use Rattle.lattice.specs.declared.Sizes.{Sizes}
use Rattle.lattice.specs.declared.Kind.{Kind}
use Rattle.lattice.specs.Axis.{Axis}
use Rattle.lattice.specs.Counts.{points}
use Rattle.lattice.specs.Point.{doubled, kind_of, index_of}
use Rattle.lattice.specs.Direction.{Step, direction, is_start, direction_of}
use Rattle.lattice.specs.Edge.{neighbour, byte_at}
use Rattle.moving.specs.State.{is_move}

-- three signed coordinates
abbrev pub Place : Type 0
Place = Axis → ℤ

-- "A point at X, Y, Z has the place (256X, 256Y, 256Z)"
unfoldable pub lattice_place : Kind → (Axis → ℕ) → Place
lattice_place k i a = pos (256 * doubled k (i a))

abbrev pub rest : Sizes → ℕ → Place
rest s p = lattice_place (kind_of s p) (index_of s p)

-- one of a direction's three numbers
abbrev pub signed : Step → ℤ
signed t = pos t.up -ℤ pos t.down

-- "The cut's place is the start's place plus t times the direction's three numbers"
unfoldable pub cut_place : Sizes → List ℕ → ℕ → ℕ → Place
cut_place s cuts p d a = rest s p a +ℤ pos (get_or cuts (byte_at p d) 0) *ℤ signed (direction d a)

-- the place of the cut of the edge that leads from p by code c
unfoldable pub moved_place : Sizes → List ℕ → ℕ → ℕ → Option ℕ → Place
moved_place s cuts p c None = rest s p
moved_place s cuts p c (Some q) = cut_place s cuts (if is_start c then p else q) (direction_of c)

-- a point whose state byte is a move "moves to that cut's place"; any other stands where it was. F-8: "Its place is its own place"
unfoldable pub point_place : Sizes → List ℕ → List ℕ → ℕ → Place
point_place s cuts state p =
    let c = get_or state p 0 in
    if is_move c then moved_place s cuts p c (neighbour s p c) else rest s p

-- the place of an id: "A row's place uses the moved points"
unfoldable pub place_of : Sizes → List ℕ → List ℕ → ℕ → Place
place_of s cuts state id =
    if ltb id (points s) then point_place s cuts state id
    else cut_place s cuts ((id - points s) / 7) ((id - points s) % 7)
