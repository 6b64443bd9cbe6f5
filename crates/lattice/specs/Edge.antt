-- Document 01, "The block": edges, and the byte of the cut table that an edge has.
use Rattle.std.specs.Prelude.{ℕ, ◌+◌, ◌*◌, ◌-◌, ◌/◌, Bool, ◌&&◌, leb, if◌then◌else◌, Option, Some, None}
use Rattle.lattice.specs.declared.Sizes.{Sizes}
use Rattle.lattice.specs.declared.Kind.{Kind}
use Rattle.lattice.specs.Axis.{Axis, everywhere}
use Rattle.lattice.specs.Counts.{size}
use Rattle.lattice.specs.Point.{doubled, other, number, kind_of, index_of}
use Rattle.lattice.specs.Direction.{long, is_start, direction_of, step}

-- "An edge exists if both ends are in the block": a step from a doubled coordinate stays between 0 and twice the size
unfoldable pub stays_in : Sizes → Kind → (Axis → ℕ) → ℕ → Axis → Bool
stays_in s k i c a =
    leb (step c a).down (doubled k (i a)) && leb (doubled k (i a) + (step c a).up) (2 * size s a + (step c a).down)

abbrev pub exists : Sizes → Kind → (Axis → ℕ) → ℕ → Bool
exists s k i c = everywhere (stays_in s k i c)

-- the far end: a long edge leads to a point of the same kind, a short one to the other kind
unfoldable pub far_kind : Kind → ℕ → Kind
far_kind k c = if long (direction_of c) then k else other k

-- where the edge exists the step down is no longer than the way to 0, so `-` cuts nothing off
unfoldable pub far_index : Kind → (Axis → ℕ) → ℕ → Axis → ℕ
far_index k i c a = (doubled k (i a) + (step c a).up - (step c a).down) / 2

-- the neighbour by a code of the point of a kind with these indices, or none
unfoldable pub near : Sizes → Kind → (Axis → ℕ) → ℕ → Option ℕ
near s k i c = if exists s k i c then Some (number s (far_kind k c) (far_index k i c)) else None

-- the same for the point p
abbrev pub neighbour : Sizes → ℕ → ℕ → Option ℕ
neighbour s p c = near s (kind_of s p) (index_of s p) c

-- "the edge from point p in direction d has byte 7p+d"
abbrev pub byte_at : ℕ → ℕ → ℕ
byte_at p d = 7 * p + d

-- the byte of the edge that leads from p by a code to q
unfoldable pub edge_byte : ℕ → ℕ → ℕ → ℕ
edge_byte p c q = byte_at (if is_start c then p else q) (direction_of c)
