-- The corners of the rows of a lattice tetrahedron lie in one box. Its own four corners stand on lattice places at most
-- 512 apart along each axis, each moved by at most 127; and a cut stands between two of them. Assumes nothing.
--
--   lowest          the lowest lattice place of the four corners along an axis
--   entry_between   the box about an entry of a row, axis by axis
use Prim.Native.Nat.{ℕ, ◌+◌, ◌*◌, ◌≤◌}
use native.Mathlib.Omega.{arith}
use mathlib.Core.Path.{sym, ap, ◌∙◌, subst}
use mathlib.Core.Bool.{Bool}
use lib.Dec.{T, leb, leb→le, ltb→lt}
use lib.IntN.{ℤ, ◌+ℤ◌}
use Rattle.basics.proofs.Test.{◌&◌, and_l, and_r}
use Rattle.basics.proofs.Integer.{nat, ◌⊕◌, ◌⊖◌}
use Rattle.basics.proofs.Tested.{Tested, tested, ◌⊗◌}
use Rattle.lattice.specs.declared.Sizes.{Sizes}
use Rattle.lattice.specs.Axis.{Axis}
use Rattle.lattice.specs.Point.{doubled}
use Rattle.lattice.proofs.Axes.{the_axes}
use Rattle.moving.specs.declared.Label.{Label}
use Rattle.stencil.specs.Tetrahedron.{Tetrahedron, Vertex, Quarter, kind, unit, around, offset, corner, corner_number}
use Rattle.stencil.specs.Stencil.{Entry, point, between}
use Rattle.stencil.specs.Id.{id_of}
use Rattle.stencil.proofs.Corners.{the_vertices, the_quarters}
use Rattle.stencil.proofs.Edges.{counted, counted_corner}
use Rattle.stencil.proofs.Entries.{stands}
use Rattle.stencil.proofs.Valid.{Valid, corner_inside}
use Rattle.geometry.specs.Place.{Place, lattice_place}
use Rattle.filling.specs.Mesh.{labels_in}
use Rattle.volumes.proofs.Sound.{Moved, Sound}
use Rattle.volumes.proofs.Box.{half, move_inner}
use Rattle.volumes.proofs.Mix.{cut_place_law}
use Rattle.bounds.proofs.Interval.{Between, parts_between, mix_between}

-- the doubled coordinates of the corners, counted from the lower cube: from 1 to 3 along the axis of the two cubes, and
-- from 0 to 2 along the others
spans : Axis → Quarter → Vertex → Axis → Bool
spans a e v c =
    let x = doubled (kind v) (offset a e v c) in
    leb (unit a c) x & leb x (unit a c + 2)

all_span :
    Tested (the_axes ⊗ the_quarters ⊗ the_vertices ⊗ the_axes) (λ x. spans x.0 x.1.0 x.1.1.0 x.1.1.1)
unfolding ◌&◌ spans offset around unit
all_span = record { passed = tt }

module _ (t : Tetrahedron) where
  unfoldable pub lowest : Axis → ℕ
  lowest a = 256 * (2 * t.cube a + unit t.axis a)

  counted_between : (v : Vertex) (a : Axis)
      → (unit t.axis a ≤ counted t v a) × (counted t v a ≤ unit t.axis a + 2)
  unfolding spans
  counted_between v a =
      let s = tested all_span (t.axis, (t.edge, (v, a))) in
      (leb→le _ _ (and_l _ _ s), leb→le _ _ (and_r _ _ s))

  moved_between : (v : Vertex) (p : Place) → Moved (kind v) (corner t v) p → (a : Axis) → Between (lowest a) (p a)
  unfolding lowest lattice_place
  moved_between v p m a =
      let move = move_inner m.c m.t a m.code m.within in
      let counts = counted_corner t v a in
      let span = counted_between v a in
      subst (Between (lowest a)) (sym (m.is a ∙ ap (λ (z : ℤ). lattice_place (kind v) (corner t v) a +ℤ z) move.is))
      (parts_between (nat (256 * doubled (kind v) (corner t v a)) ⊕ (nat move.over ⊖ nat half))
      (omega arith) (omega (arith, move.fits)))

module _ {s : Sizes} {label : ℕ → Label} {byte : ℕ → ℕ} {place : ℕ → Place}
    (Q : Sound s label byte place) (t : Tetrahedron) (h : Valid s t) where
  corner_between : (v : Vertex) (a : Axis) → Between (lowest t a) (place (corner_number s t v) a)
  unfolding corner_number
  corner_between v = moved_between t v _ (Q.moves (kind v) (corner t v) (corner_inside s t h v))

  pub entry_between : (x : Entry Vertex) → T (stands (labels_in s label t) x)
      → (a : Axis) → Between (lowest t a) (place (id_of s t x) a)
  unfolding stands id_of
  entry_between (point v) k a = corner_between v a
  entry_between (between u v) k a =
      let mix = cut_place_law Q t h u v (ltb→lt _ _ (and_l _ _ k)) (and_r _ _ k) in
      mix_between (corner_between u a) (corner_between v a) _ mix.m mix.n mix.whole (mix.is a)
