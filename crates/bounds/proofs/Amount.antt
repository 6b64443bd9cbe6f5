-- How many rows a block has: as many lattice tetrahedra are listed as are measured, and each gives at most three rows.
-- Assumes nothing.
--
--   listed_count         the list of lattice tetrahedra has document 01's count
--   rows_most_law            at most three rows for each
--   long_enough_always   so a row table of twelve numbers for each is never too short
--   tetrahedra_within    up to 5 by 5 by 5 cubes there are at most 1,200
--   bench_rows_law           and so at most 3,600 rows
use Prim.Native.Nat.{ℕ, ◌*◌, ◌-◌, ◌≤◌}
use native.Mathlib.Omega.{arith}
use mathlib.Core.Path.{◌≡◌, refl, sym, ap, ◌∙◌}
use mathlib.Core.Logic.{inr}
use mathlib.Core.List.{List, [], ◌∷◌, map}
use lib.ListN.{length, length-append, length-map}
use borrow.Author.Tests.{le-leb}
use Rattle.basics.specs.Lists.{gather, below}
use Rattle.basics.proofs.Mapped.{from_length}
use Rattle.lattice.specs.declared.Sizes.{Sizes}
use Rattle.lattice.specs.Axis.{Axis, along_x, along_y, along_z}
use Rattle.lattice.specs.Counts.{size, tetrahedra}
use Rattle.lattice.proofs.Bounds.{product₃}
use Rattle.moving.specs.declared.Label.{Label}
use Rattle.moving.specs.Reading.{Reading, label_after}
use Rattle.moving.specs.Moving.{state_of}
use Rattle.moving.specs.Block.{Block, reading_of}
use Rattle.stencil.specs.Tetrahedron.{Tetrahedron, Vertex, unit}
use Rattle.stencil.specs.Tetrahedron.{in_turn, in_cube, in_line, in_layer, in_axis, tetrahedra_of}
use Rattle.stencil.specs.Row.{map_row}
use Rattle.stencil.specs.Stencil.{Stencil, no_plus, plus_zero_only, +++-, ++--, ++-0, +---, +--0, +-00}
use Rattle.stencil.specs.Stencil.{rows_of, rows_for}
use Rattle.stencil.specs.Id.{id_of}
use Rattle.geometry.specs.Place.{Place, place_of}
use Rattle.filling.specs.Mesh.{labels_in, oriented, rows_in, rows_over, rows_with, mesh_of}
use Rattle.filling.specs.Fill.{Outcome, written, fill}
use Rattle.filling.proofs.Accepted.{passed_all}
use Rattle.bounds.specs.inner.Most.{rows_most}

-- lists in parts: all parts equally long, or none longer than so much
module _ {A B : Type 0} (f : A → List B) (k : ℕ) where
  gather_each : (l : List A) → ((x : A) → length (f x) ≡ k) → length (gather f l) ≡ length l * k
  unfolding gather
  gather_each [] h = omega arith
  gather_each (x ∷ l) h = omega (arith, length-append (f x) (gather f l), h x, gather_each l h)

  gather_most : (l : List A) → ((x : A) → length (f x) ≤ k) → length (gather f l) ≤ k * length l
  unfolding gather
  gather_most [] h = omega arith
  gather_most (x ∷ l) h = omega (arith, length-append (f x) (gather f l), h x, gather_most l h)

gather_below : {B : Type 0} (f : ℕ → List B) (k : ℕ) {m n : ℕ} → m ≡ n → ((x : ℕ) → length (f x) ≡ k)
    → length (gather f (below m)) ≡ n * k
gather_below f k {m} {n} e h = gather_each f k (below m) h ∙ ap (λ (i : ℕ). i * k) (from_length 0 m ∙ e)

-- the cubes that have a next one along an axis, four tetrahedra each
in_cube_law : (a : Axis) (z y x : ℕ) → length (in_cube a z y x) ≡ 4
unfolding in_cube in_turn gather
in_cube_law a z y x = refl

module _ (s : Sizes) (a : Axis) (x y z : ℕ) where
  in_axis_law : size s along_x - unit a along_x ≡ x → size s along_y - unit a along_y ≡ y
      → size s along_z - unit a along_z ≡ z → length (in_axis s a) ≡ 4 * (x * (y * z))
  unfolding in_axis in_layer in_line
  in_axis_law p q r =
      gather_below _ _ r (λ k. gather_below _ _ q (λ j. gather_below _ 4 p (in_cube_law a k j))) ∙ omega arith

-- "There are 4 times the sum of (nx-1)·ny·nz, nx·(ny-1)·nz and nx·ny·(nz-1) of them"
pub listed_count : (s : Sizes) → length (tetrahedra_of s) ≡ tetrahedra s
unfolding tetrahedra_of tetrahedra gather unit
listed_count s =
    simp length-append
    (omega (
      arith,
      in_axis_law s along_x (s.nx - 1) s.ny s.nz (omega arith) (omega arith) (omega arith),
      in_axis_law s along_y s.nx (s.ny - 1) s.nz (omega arith) (omega arith) (omega arith),
      in_axis_law s along_z s.nx s.ny (s.nz - 1) (omega arith) (omega arith) (omega arith),
    ))

-- the rows of a pattern
rows_of_most : (t : Stencil) (p m z c : ℕ → Vertex) → length (rows_of t p m z c) ≤ 3
unfolding rows_of
rows_of_most no_plus p m z c = omega arith
rows_of_most plus_zero_only p m z c = omega arith
rows_of_most +++- p m z c = omega arith
rows_of_most ++-- p m z c = omega arith
rows_of_most ++-0 p m z c = omega arith
rows_of_most +--- p m z c = omega arith
rows_of_most +--0 p m z c = omega arith
rows_of_most +-00 p m z c = omega arith

module _ (s : Sizes) (label : ℕ → Label) (place : ℕ → Place) where
  rows_in_most : (t : Tetrahedron) → length (rows_in s label place t) ≤ 3
  unfolding rows_in rows_for
  rows_in_most t =
      let rows = rows_for (labels_in s label t) in
      rw (length-map (map (map_row (id_of s t)) rows) (oriented place), length-map rows (map_row (id_of s t)))
      (rows_of_most _ _ _ _ _)

  -- whatever labels points have, and wherever they stand
  pub rows_most_law : length (rows_over s label place) ≤ 3 * tetrahedra s
  unfolding rows_over
  rows_most_law = omega (arith, gather_most (rows_in s label place) 3 (tetrahedra_of s) rows_in_most, listed_count s)

few_rows : (m : Reading) (codes : List ℕ) → length (rows_with m codes) ≤ 3 * tetrahedra m.sizes
few_rows m codes = rows_most_law m.sizes (label_after m.label codes) (place_of m.sizes m.cuts codes)

pub long_enough_always : (band : ℕ) (b : Block) (state rows : List ℕ) → 12 * tetrahedra b.sizes ≤ length rows
    → (fill band b state rows).answer.number ≡ 10 → ⊥
unfolding written
long_enough_always band b state rows h e =
    let w = (passed_all band b state rows 10 (inr refl) e).is in
    let m = reading_of band b in
    let fits = le-leb (4 * length (mesh_of m)) (length rows) (omega (arith, few_rows m (state_of m))) in
    let z : ◌≡◌ {A = ℕ} 0 10 = rw fits at (sym (ap (λ (o : Outcome). o.answer.number) w) ∙ e) in
    omega arith

-- up to 5 by 5 by 5 cubes
module _ (s : Sizes) (x : s.nx ≤ 5) (y : s.ny ≤ 5) (z : s.nz ≤ 5) where
  pub tetrahedra_within : tetrahedra s ≤ 1200
  unfolding tetrahedra
  tetrahedra_within =
      omega (
        arith,
        product₃ 4 5 5 {a = s.nx - 1} {b = s.ny} {c = s.nz} (omega arith) y z,
        product₃ 5 4 5 {a = s.nx} {b = s.ny - 1} {c = s.nz} x (omega arith) z,
        product₃ 5 5 4 {a = s.nx} {b = s.ny} {c = s.nz - 1} x y (omega arith),
      )

pub bench_rows_law : (m : Reading) (codes : List ℕ) → m.sizes.nx ≤ 5 → m.sizes.ny ≤ 5 → m.sizes.nz ≤ 5
    → length (rows_with m codes) ≤ rows_most
bench_rows_law m codes x y z = omega (arith, few_rows m codes, tetrahedra_within m.sizes x y z)
