-- A point with a code stands on the cut of its edge. Seen from the point itself, that is a number of 256ths along the way of its code:
-- the way from the end of an edge is the way from its start. Assumes nothing.
use Prim.Native.Nat.{ℕ, ◌-◌, ◌≤◌, ◌<◌}
use mathlib.Core.Path.{◌≡◌, refl, ap, ◌∙◌}
use mathlib.Core.Bool.{Bool, true, false}
use mathlib.Core.List.{List}
use lib.IntN.{pos, ◌+ℤ◌, ◌*ℤ◌}
use lib.ListN.{get_or}
use Rattle.std.specs.Prelude.{if◌then◌else◌, Some}
use Rattle.lattice.specs.declared.Sizes.{Sizes}
use Rattle.lattice.specs.Axis.{Axis}
use Rattle.lattice.specs.Counts.{points}
use Rattle.lattice.specs.Point.{doubled, kind_of, index_of}
use Rattle.lattice.specs.Direction.{Step, reversed, Code, is_start, direction_of, direction, step}
use Rattle.lattice.specs.Edge.{neighbour, byte_at, edge_byte}
use Rattle.lattice.proofs.Edge.{FarEnd, far}
use Rattle.moving.specs.Violation.{measured}
use Rattle.geometry.proofs.FromEnd.{rest_number, from_end}
use Rattle.geometry.specs.Place.{Place, lattice_place, rest, signed, cut_place, moved_place}
use Rattle.triple.specs.inner.Places.{along}

-- a cut stands so many steps from its start
pub cut_along_law : (s : Sizes) (cuts : List ℕ) (p d : ℕ) → cut_place s cuts p d ≡ along (rest s p) (direction d) (get_or cuts (byte_at p d) 0)
unfolding cut_place along
cut_along_law s cuts p d = refl

module _ (s : Sizes) (cuts : List ℕ) (p c q : ℕ) (h : p < points s) (g : Code c) (e : neighbour s p c ≡ Some q)
    (small : get_or cuts (edge_byte p c q) 0 ≤ 256) where
  pub moved_along : moved_place s cuts p c (Some q) ≡ along (rest s p) (step c) (measured c (get_or cuts (edge_byte p c q) 0))
  unfolding moved_place along cut_place step measured edge_byte lattice_place
  moved_along = λ t a. go (is_start c) refl a t
    where
      end : FarEnd s (kind_of s p) (index_of s p) c q
      end = far s p c q h g e

      way : Axis → Step
      way = direction (direction_of c)

      at : Bool → ℕ
      at z = if z then p else q

      t : Bool → ℕ
      t z = get_or cuts (byte_at (at z) (direction_of c)) 0

      go : (z : Bool) → is_start c ≡ z → (a : Axis)
          → rest s (at z) a +ℤ pos (t z) *ℤ signed (way a)
          ≡ rest s p a +ℤ pos (if z then t z else 256 - t z) *ℤ signed (if z then way a else reversed (way a))
      go true d a = refl
      go false d a =
          ap (λ (f : Place). f a +ℤ pos (t false) *ℤ signed (way a)) (ap (rest s) end.is ∙ rest_number s end.kind end.index end.inside)
          ∙ from_end (doubled (kind_of s p) (index_of s p a)) (doubled end.kind (end.index a)) (way a).up (way a).down (t false)
          (rw d at small) (rw d at (end.leads a))
