-- The list of lattice tetrahedra holds each whose two cubes are in the block, no other, and none twice.
-- Assumes nothing.
use Prim.Native.Nat.{ℕ, ◌-◌, ◌<◌}
use native.Mathlib.Omega.{arith}
use native.Mathlib.Nat.{not-suc-le-zero}
use mathlib.Core.Path.{◌≡◌, refl, sym, ◌∙◌, ap, subst}
use mathlib.Core.List.{[], ◌∷◌}
use Rattle.basics.specs.Lists.{below}
use Rattle.basics.proofs.Test.{◌&◌, Member, here, there}
use Rattle.basics.proofs.Gather.{NoRepeats, empty, more, member_length, below_lt, below_i, below_once, distinct_once}
use Rattle.basics.proofs.Gather.{gather_i, gather_part, gather_once}
use Rattle.lattice.specs.declared.Sizes.{Sizes}
use Rattle.lattice.specs.Axis.{Axis, along_x, along_y, along_z, xyz}
use Rattle.lattice.specs.Counts.{size}
use Rattle.lattice.proofs.Axes.{the_axes}
use Rattle.stencil.specs.Tetrahedron.{Tetrahedron, Quarter, unit, axes, quarters}
use Rattle.stencil.specs.Tetrahedron.{in_turn, in_cube, in_line, in_layer, in_axis, tetrahedra_of}
use Rattle.stencil.proofs.Corners.{the_quarters}
use Rattle.stencil.proofs.Valid.{Valid}

single : {A : Type 0} {a b : A} → Member b (a ∷ []) → b ≡ a
single here = refl
single (there m) = absurd (not-suc-le-zero (member_length m))

single_once : {A : Type 0} (a : A) → NoRepeats (a ∷ [])
single_once a = more {x = a} (λ m. not-suc-le-zero (member_length m)) empty

-- what stands in each part of the list
abbrev tetrahedron : Axis → ℕ → ℕ → ℕ → Quarter → Tetrahedron
tetrahedron a z y x e = record { axis = a; cube = xyz x y z; edge = e }

turn_is : {t : Tetrahedron} (a : Axis) (z y x : ℕ) (e : Quarter) → Member t (in_turn a z y x e)
    → t ≡ tetrahedron a z y x e
unfolding in_turn
turn_is a z y x e m = single m

cube_is : {t : Tetrahedron} (a : Axis) (z y x : ℕ) → Member t (in_cube a z y x)
    → (e : Quarter) × (t ≡ tetrahedron a z y x e)
unfolding in_cube
cube_is a z y x m = let p = gather_part (in_turn a z y x) quarters m in (p.0, turn_is a z y x p.0 p.2)

module _ (s : Sizes) (a : Axis) where
  abbrev room : Axis → ℕ
  room c = size s c - unit a c

  line_is : {t : Tetrahedron} (z y : ℕ) → Member t (in_line s a z y)
      → (x : ℕ) × (x < room along_x) × (e : Quarter) × (t ≡ tetrahedron a z y x e)
  unfolding in_line
  line_is z y m =
      let p = gather_part (in_cube a z y) (below (room along_x)) m in
      let q = cube_is a z y p.0 p.2 in
      (p.0, below_lt _ p.1, q.0, q.1)

  layer_is : {t : Tetrahedron} (z : ℕ) → Member t (in_layer s a z)
      → (y x : ℕ) × (y < room along_y) × (x < room along_x) × (e : Quarter) × (t ≡ tetrahedron a z y x e)
  unfolding in_layer
  layer_is z m =
      let p = gather_part (in_line s a z) (below (room along_y)) m in
      let q = line_is z p.0 p.2 in
      (p.0, q.0, below_lt _ p.1, q.1, q.2, q.3)

  axis_is : {t : Tetrahedron} → Member t (in_axis s a)
      → (z y x : ℕ) × (z < room along_z) × (y < room along_y) × (x < room along_x) × (e : Quarter)
      × (t ≡ tetrahedron a z y x e)
  unfolding in_axis
  axis_is m =
      let p = gather_part (in_layer s a) (below (room along_z)) m in
      let q = layer_is p.0 p.2 in
      (p.0, q.0, q.1, below_lt _ p.1, q.2, q.3, q.4, q.5)

-- each of the list is valid
pub listed_valid : (s : Sizes) (t : Tetrahedron) → Member t (tetrahedra_of s) → Valid s t
unfolding tetrahedra_of
listed_valid s t m = subst (Valid s) (sym q.7) fits
  where
    p : (a : Axis) × Member a axes × Member t (in_axis s a)
    p = gather_part (in_axis s) axes m

    q : (z y x : ℕ) × (z < room s p.0 along_z) × (y < room s p.0 along_y) × (x < room s p.0 along_x)
        × (e : Quarter) × (t ≡ tetrahedron p.0 z y x e)
    q = axis_is s p.0 p.2

    fits : Valid s (tetrahedron p.0 q.0 q.1 q.2 q.6)
    fits along_x = omega (arith, q.5)
    fits along_y = omega (arith, q.4)
    fits along_z = omega (arith, q.3)

-- each that is valid is in the list
pub valid_listed : (s : Sizes) (t : Tetrahedron) → Valid s t → Member t (tetrahedra_of s)
unfolding tetrahedra_of in_axis in_layer in_line in_cube in_turn
valid_listed s t h =
    let z = t.cube along_z in
    let y = t.cube along_y in
    let x = t.cube along_x in
    gather_i (in_axis s) (the_axes.complete t.axis)
    (gather_i (in_layer s t.axis) (below_i _ z (omega (arith, h along_z)))
    (gather_i (in_line s t.axis z) (below_i _ y (omega (arith, h along_y)))
    (gather_i (in_cube t.axis z y) (below_i _ x (omega (arith, h along_x)))
    (gather_i (in_turn t.axis z y x) (the_quarters.complete t.edge)
    (subst (λ (u : Tetrahedron). Member u (again ∷ [])) same here)))))
  where
    again : Tetrahedron
    again = tetrahedron t.axis (t.cube along_z) (t.cube along_y) (t.cube along_x) t.edge

    cubes : (c : Axis) → xyz (t.cube along_x) (t.cube along_y) (t.cube along_z) c ≡ t.cube c
    cubes along_x = refl
    cubes along_y = refl
    cubes along_z = refl

    same : again ≡ t
    same = λ i. record { axis = t.axis; cube = λ c. cubes c i; edge = t.edge }

-- none is in the list twice
pub listed_once : (s : Sizes) → NoRepeats (tetrahedra_of s)
unfolding ◌&◌ tetrahedra_of in_axis in_layer in_line in_cube in_turn
listed_once s =
    gather_once (in_axis s) axes (distinct_once the_axes axes tt)
    (λ a. gather_once (in_layer s a) _ (below_once _)
    (λ z. gather_once (in_line s a z) _ (below_once _)
    (λ y. gather_once (in_cube a z y) _ (below_once _)
    (λ x. gather_once (in_turn a z y x) quarters (distinct_once the_quarters quarters tt)
    (λ e. single_once (tetrahedron a z y x e))
    (λ e f t m n. ap (λ (u : Tetrahedron). u.edge) (sym (turn_is a z y x e m) ∙ turn_is a z y x f n)))
    (λ x w t m n. ap (λ (u : Tetrahedron). u.cube along_x) (sym (cube_is a z y x m).1 ∙ (cube_is a z y w n).1)))
    (λ y w t m n. ap (λ (u : Tetrahedron). u.cube along_y) (sym (line_is s a z y m).3 ∙ (line_is s a z w n).3)))
    (λ z w t m n. ap (λ (u : Tetrahedron). u.cube along_z) (sym (layer_is s a z m).5 ∙ (layer_is s a w n).5)))
    (λ a b t m n. ap (λ (u : Tetrahedron). u.axis) (sym (axis_is s a m).7 ∙ (axis_is s b n).7))
