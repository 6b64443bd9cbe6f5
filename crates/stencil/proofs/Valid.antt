-- A lattice tetrahedron whose two cubes are in the block has its four corners in the block, and their numbers ascend.
-- Assumes nothing.
use Prim.Native.Nat.{◌+◌, ◌≤◌, ◌<◌}
use native.Mathlib.Omega.{arith}
use mathlib.Core.Bool.{Bool}
use lib.Dec.{T, leb, ltb, leb→le, ltb→lt}
use Rattle.basics.proofs.Test.{◌&◌, and_l, and_r, any, any_use}
use Rattle.basics.proofs.Finite.{each, each_use}
use Rattle.basics.proofs.Tested.{Tested, tested, ◌⊗◌}
use Rattle.lattice.specs.declared.Sizes.{Sizes}
use Rattle.lattice.specs.declared.Kind.TheVariants.{Corner, Centre}
use Rattle.lattice.specs.Axis.{Axis}
use Rattle.lattice.specs.Counts.{size}
use Rattle.lattice.specs.Point.{Inside, number}
use Rattle.lattice.proofs.Axes.{the_axes}
use Rattle.lattice.proofs.Number.{number_asc, number_kinds}
use Rattle.stencil.specs.Tetrahedron.{Tetrahedron, Vertex, v0, v1, v2, v3, Quarter, kind, unit, around, offset}
use Rattle.stencil.specs.Tetrahedron.{corner, corner_number}
use Rattle.stencil.proofs.Corners.{the_quarters}

abbrev pub Valid : Sizes → Tetrahedron → Type 0
Valid s t = (c : Axis) → t.cube c + unit t.axis c < size s c

-- of the edge's two ends neither is more than one on, the lower is nowhere above the upper, and somewhere below it
ends : Axis → Quarter → Axis → Bool
ends a e c = leb (offset a e v0 c) (offset a e v1 c) & leb (offset a e v1 c) 1

abbrev rises_along : Axis → Quarter → Axis → Bool
rises_along a e c = ltb (offset a e v0 c) (offset a e v1 c)

rises : Axis → Quarter → Bool
rises a e = any (rises_along a e) the_axes.all

steps : Axis → Bool
steps a = any (λ c. ltb 0 (unit a c)) the_axes.all

ends_ok : Tested (the_axes ⊗ the_quarters ⊗ the_axes) (λ x. ends x.0 x.1.0 x.1.1)
unfolding ◌&◌ ends offset around
ends_ok = record { passed = tt }

rises_ok : Tested (the_axes ⊗ the_quarters) (λ x. rises x.0 x.1)
unfolding ◌&◌ rises offset around
rises_ok = record { passed = tt }

steps_ok : T (each the_axes steps)
unfolding ◌&◌ steps unit
steps_ok = tt

module _ (a : Axis) (e : Quarter) where
  end_bounds : (c : Axis) → (offset a e v0 c ≤ offset a e v1 c) × (offset a e v1 c ≤ 1)
  unfolding ends
  end_bounds c =
      let t = tested ends_ok (a, (e, c)) in
      (leb→le _ _ (and_l _ _ t), leb→le _ _ (and_r (leb (offset a e v0 c) (offset a e v1 c)) _ t))

  end_rises : (c : Axis) × (offset a e v0 c < offset a e v1 c)
  unfolding rises
  end_rises =
      let r = any_use (rises_along a e) the_axes.all (tested rises_ok (a, e)) in
      (r.0, ltb→lt _ _ r.1)

  step_on : (c : Axis) × (0 < unit a c)
  unfolding steps
  step_on =
      let r = any_use (λ c. ltb 0 (unit a c)) the_axes.all (each_use the_axes steps steps_ok a) in
      (r.0, ltb→lt _ _ r.1)

module _ (s : Sizes) (t : Tetrahedron) (h : Valid s t) where
  pub corner_inside : (v : Vertex) → Inside s (kind v) (corner t v)
  unfolding corner offset
  corner_inside v0 c = omega (arith, end_bounds t.axis t.edge c, h c)
  corner_inside v1 c = omega (arith, end_bounds t.axis t.edge c, h c)
  corner_inside v2 c = omega (arith, h c)
  corner_inside v3 c = h c

  pub ascending :
      (corner_number s t v0 < corner_number s t v1)
      × (corner_number s t v1 < corner_number s t v2)
      × (corner_number s t v2 < corner_number s t v3)
  unfolding corner_number corner offset
  ascending = (low, number_kinds s (corner t v1) (corner t v2) (corner_inside v1), high)
    where
      low : number s Corner (corner t v0) < number s Corner (corner t v1)
      low =
          let r = end_rises t.axis t.edge in
          number_asc s Corner (corner t v0) (corner t v1) (corner_inside v0) (corner_inside v1)
          (λ c. omega (arith, end_bounds t.axis t.edge c)) r.0 (omega (arith, r.1))

      high : number s Centre (corner t v2) < number s Centre (corner t v3)
      high =
          let r = step_on t.axis t.edge in
          number_asc s Centre (corner t v2) (corner t v3) (corner_inside v2) (corner_inside v3)
          (λ c. omega arith) r.0 (omega (arith, r.1))
