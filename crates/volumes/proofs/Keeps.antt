-- A lattice tetrahedron keeps its sign when its corners move within reach, as long as one of them rests: seen from that
-- corner, the three others wind as the type says. Assumes nothing.
use Prim.Native.Nat.{◌*◌}
use mathlib.Core.Path.{◌≡◌, refl, sym, ◌∙◌, subst}
use mathlib.Core.Bool.{Bool}
use native.Mathlib.Omega.{arith}
use lib.Dec.{T}
use lib.IntN.{ℤ, pos, ◌+ℤ◌, ◌-ℤ◌, ◌*ℤ◌}
use lib.Signed.{lt_z, ◌<ℤ◌, lt_z_yes}
use Rattle.basics.proofs.Test.{every, every_use}
use Rattle.basics.proofs.Integer.{nat, int, ◌⊕◌, ◌⊖◌, ◌⊗◌, ring}
use Rattle.lattice.specs.Axis.{Axis, along_x, along_y, along_z}
use Rattle.lattice.specs.Point.{doubled}
use Rattle.lattice.specs.Direction.{step}
use Rattle.stencil.specs.Tetrahedron.{Tetrahedron, Vertex, kind, corner}
use Rattle.stencil.specs.Row.{Face, face, Third, t0, t1, t2, cycled}
use Rattle.stencil.specs.inner.Sign.{winds}
use Rattle.stencil.proofs.Edges.{counted, counted_corner}
use Rattle.geometry.specs.Place.{Place, lattice_place, signed}
use Rattle.geometry.specs.Volume.{difference, cross, dot, triple, six_volume}
use Rattle.geometry.proofs.Determinant.{turn}
use Rattle.volumes.proofs.Sound.{Moved}
use Rattle.volumes.proofs.Box.{Inner, ends, Extreme, shifted, move_inner, in_boxes}
use Rattle.volumes.proofs.Built.{opposite}
use Rattle.volumes.proofs.Ends.{arm, Vector, vector, flat, normal, along, at_corners, ahead, positive_at, arms_wind}
use Rattle.volumes.proofs.EndsTest.{type_keeps_law}

-- what the computed test says
corners_use : (f : Vector → Bool) (l : Place) → T (at_corners f (flat l)) → (e : Place) → Extreme e
    → T (f (flat (shifted l e)))
unfolding at_corners
corners_use f l t e c =
    every_use (at (e along_x) (e along_y)) ends
    (every_use (λ j. every (at (e along_x) j) ends) ends
    (every_use (λ i. every (λ j. every (at i j) ends) ends) ends t (c along_x)) (c along_y)) (c along_z)
  where
    at : ℤ → ℤ → ℤ → Bool
    at i j k = f (vector (l along_x +ℤ i) (l along_y +ℤ j) (l along_z +ℤ k))

flat_triple : (u v w : Place) → along (normal (flat u) (flat v)) (flat w) ≡ triple u v w
unfolding along normal triple dot cross
flat_triple u v w = turn w u v

ends_use : (u v w : Place) → T (positive_at (flat u) (flat v) (flat w))
    → (d e f : Place) → Extreme d → Extreme e → Extreme f
    → pos 0 <ℤ triple (shifted u d) (shifted v e) (shifted w f)
unfolding positive_at ahead
ends_use u v w t d e f p q r =
    lt_z_yes (rw flat_triple at
    (corners_use (λ z. lt_z (pos 0) (along (normal (flat (shifted u d)) (flat (shifted v e))) z)) w
    (corners_use (λ y. ahead (normal (flat (shifted u d)) y) (flat w)) v
    (corners_use (λ x. at_corners (λ y. ahead (normal x y) (flat w)) (flat v)) u t d p) e q) f r))

-- the six-volume of a corner and three others, which may be turned round in a cycle
abbrev pub seen_from : (Vertex → Place) → Vertex → Face Vertex → ℤ
seen_from P u (face x y z) = six_volume (P u) (P x) (P y) (P z)

pub cycled_same : (P : Vertex → Place) (u : Vertex) (r : Third) (f : Face Vertex)
    → seen_from P u (cycled r f) ≡ seen_from P u f
unfolding six_volume
cycled_same P u t0 (face x y z) = refl
cycled_same P u t1 (face x y z) = sym (turn (difference (P u) (P x)) (difference (P u) (P y)) (difference (P u) (P z)))
cycled_same P u t2 (face x y z) = turn (difference (P u) (P z)) (difference (P u) (P x)) (difference (P u) (P y))

module _ (t : Tetrahedron) (P : Vertex → Place) (moved : (v : Vertex) → Moved (kind v) (corner t v) (P v)) where
  move : Vertex → Place
  move v a = pos (moved v).t *ℤ signed (step (moved v).c a)

  module _ (u : Vertex) (rests : (a : Axis) → P u a ≡ lattice_place (kind u) (corner t u) a) where
    -- the arm to a moved corner, seen from the one at rest
    arm_moved : (v : Vertex) (a : Axis) → shifted (arm t.axis t.edge u v) (move v) a ≡ difference (P u) (P v) a
    unfolding arm move lattice_place
    arm_moved v a =
        ring (nat 256 ⊗ (nat (counted t v a) ⊖ nat (counted t u a)) ⊕ int (move v a))
        (nat (256 * doubled (kind v) (corner t v a)) ⊕ int (move v a) ⊖ nat (256 * doubled (kind u) (corner t u a)))
        (omega (arith, counted_corner t v a, counted_corner t u a))
        ∙ (λ j. sym ((moved v).is a) j -ℤ sym (rests a) j)

    seen_positive : (f : Face Vertex) → T (arms_wind t.axis t.edge u f) → pos 0 <ℤ seen_from P u f
    unfolding arms_wind six_volume move
    seen_positive (face x y z) ok =
        subst (λ (p : Vertex → Place). pos 0 <ℤ triple (p x) (p y) (p z)) (λ j v a. arm_moved v a j)
        (in_boxes (arms x) (arms y) (arms z) (move x) (move y) (move z) (inner x) (inner y) (inner z)
        (ends_use (arms x) (arms y) (arms z) ok))
      where
        arms : Vertex → Place
        arms = arm t.axis t.edge u

        inner : (v : Vertex) (a : Axis) → Inner (move v a)
        inner v a = move_inner (moved v).c (moved v).t a (moved v).code (moved v).within

    pub keeps : pos 0 <ℤ seen_from P u (opposite (winds t.edge) u)
    keeps = seen_positive (opposite (winds t.edge) u) (type_keeps_law t.axis t.edge u)
