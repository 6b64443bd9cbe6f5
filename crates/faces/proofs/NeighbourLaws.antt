-- What the tests of the table of neighbours say. Assumes nothing.
use Prim.Native.Nat.{◌+◌, ◌<◌}
use mathlib.Core.Path.{◌≡◌}
use mathlib.Core.Logic.{◌⊎◌, inl, inr}
use mathlib.Core.Bool.{not, ◌||◌}
use lib.Dec.{T, ltb, eqb, eqb→eq, lt→ltb, T_not}
use Rattle.basics.proofs.Test.{and_l, and_r, and_i, imp_use, or_cases, beq_use, eqb_of}
use Rattle.basics.proofs.Finite.{each, each_use, each_i}
use Rattle.basics.proofs.Tested.{tested, ◌⊗◌, same, same_use, same_i}
use Rattle.lattice.specs.Axis.{Axis}
use Rattle.lattice.specs.Counts.{along}
use Rattle.lattice.proofs.Axes.{the_axes}
use Rattle.stencil.specs.Tetrahedron.{Vertex, Quarter, unit, offset}
use Rattle.stencil.specs.Row.{Third, t0}
use Rattle.stencil.proofs.Corners.{the_vertices, the_quarters, the_thirds}
use Rattle.stencil.specs.inner.Sign.{winds}
use Rattle.faces.proofs.Pattern.{outward}
use Rattle.faces.proofs.Neighbour.{the_kinds, Side, next_to, side_of, side_offset, side_kind}
use Rattle.faces.proofs.NeighbourTests.{meets, meets_along, faces_back, same_side, alike, as_far, as_far_along}
use Rattle.faces.proofs.NeighbourTests.{meet_only, reach, reach_beyond, lowest, highest, low_rim, high_rim}
use Rattle.faces.proofs.NeighbourTests.{same_offset, same_type, meets_ok, faces_back_ok, differs_ok, meet_only_ok}
use Rattle.faces.proofs.NeighbourTests.{low_rim_ok, high_rim_ok, same_type_ok}

same_side_use : (x y : Side) → T (same_side x y) → x ≡ y
unfolding same_side
same_side_use x y t =
    let u = and_r (same the_axes x.0 y.0) _ t in
    let a : x.0 ≡ y.0 = same_use the_axes _ _ (and_l _ _ t) in
    let e : x.1.0 ≡ y.1.0 = same_use the_quarters _ _ (and_l _ _ u) in
    let v : x.1.1 ≡ y.1.1 = same_use the_vertices _ _ (and_r (same the_quarters x.1.0 y.1.0) _ u) in
    λ i. (a i, (e i, v i))

module _ (x : Side) where
  pub next_kind : (t : Third) → side_kind x t ≡ side_kind (side_of (next_to x)) t
  unfolding meets
  next_kind t = same_use the_kinds _ _ (and_l _ _ (tested meets_ok (x, t)))

  pub next_offset : (t : Third) (c : Axis)
      → side_offset (side_of (next_to x)) t c + (next_to x).up c ≡ side_offset x t c + (next_to x).down c
  unfolding meets meets_along
  next_offset t c =
      eqb→eq _ _ (each_use the_axes (meets_along x t)
      (and_r (same the_kinds (side_kind x t) (side_kind (side_of (next_to x)) t)) _ (tested meets_ok (x, t))) c)

  pub next_winding : outward (winds (next_to x).edge) (next_to x).corner ≡ not (outward (winds x.1.0) x.1.1)
  unfolding faces_back
  next_winding = beq_use _ _ (tested faces_back_ok x)

  pub next_differs : x.0 ≡ (next_to x).axis → x.1.0 ≡ (next_to x).edge → ⊥
  unfolding alike
  next_differs a e =
      T_not (alike x) (tested differs_ok x)
      (and_i (same the_axes x.0 (next_to x).axis) _ (same_i the_axes _ _ a) (same_i the_quarters _ _ e))

  pub next_low : (c : Axis) → 0 < (next_to x).down c → ((next_to x).down c ≡ 1) × ((t : Third) → side_offset x t c ≡ 0)
  unfolding low_rim lowest
  next_low c h =
      let r = imp_use (ltb 0 ((next_to x).down c)) _ (tested low_rim_ok (x, c)) (lt→ltb _ _ h) in
      let low = and_r (eqb ((next_to x).down c) 1) _ r in
      (eqb→eq _ _ (and_l _ _ r), λ t. eqb→eq _ _ (each_use the_thirds (lowest x c) low t))

  pub next_high : (c : Axis) → reach x c < reach_beyond x c
      → (reach_beyond x c ≡ reach x c + 1) × ((t : Third) → side_offset x t c ≡ unit x.0 c + along (side_kind x t) 0)
  unfolding high_rim highest
  next_high c h =
      let r = imp_use (ltb (reach x c) (reach_beyond x c)) _ (tested high_rim_ok (x, c)) (lt→ltb _ _ h) in
      let high = and_r (eqb (reach_beyond x c) (reach x c + 1)) _ r in
      (eqb→eq _ _ (and_l _ _ r), λ t. eqb→eq _ _ (each_use the_thirds (highest x c) high t))

  -- a side whose corners are of the same kinds and as far apart is the side itself or the neighbour's
  pub next_only : (y : Side) → ((t : Third) → side_kind x t ≡ side_kind y t)
      → ((t : Third) (c : Axis) → side_offset y t c + side_offset x t0 c ≡ side_offset x t c + side_offset y t0 c)
      → (y ≡ x) ⊎ (y ≡ side_of (next_to x))
  unfolding meet_only as_far as_far_along
  next_only y k o = elim (or_cases (same_side y x) (same_side y (side_of (next_to x))) which) [
    | inl t ↦ inl (same_side_use y x t)
    | inr t ↦ inr (same_side_use y (side_of (next_to x)) t)
  ]
    where
      far : T (each the_thirds (as_far x y))
      far =
          each_i the_thirds (as_far x y)
          (λ t. and_i _ _ (same_i the_kinds _ _ (k t)) (each_i the_axes (as_far_along x y t) (λ c. eqb_of _ _ (o t c))))

      which : T (same_side y x || same_side y (side_of (next_to x)))
      which = imp_use (each the_thirds (as_far x y)) _ (tested meet_only_ok (x, y)) far

pub same_type_law : (a b : Axis) (e f : Quarter) → ((v : Vertex) (c : Axis) → offset a e v c ≡ offset b f v c)
    → (a ≡ b) × (e ≡ f)
unfolding same_type same_offset
same_type_law a b e f h =
    let alike = each (the_vertices ⊗ the_axes) (same_offset (a, e) (b, f)) in
    let t = imp_use alike _ (tested same_type_ok ((a, e), (b, f))) equal in
    (same_use the_axes a b (and_l _ _ t), same_use the_quarters e f (and_r (same the_axes a b) _ t))
  where
    equal : T (each (the_vertices ⊗ the_axes) (same_offset (a, e) (b, f)))
    equal = each_i (the_vertices ⊗ the_axes) (same_offset (a, e) (b, f)) (λ c. eqb_of _ _ (h c.0 c.1))
