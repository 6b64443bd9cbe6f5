-- The six points of a cube by strides are the corners of its four tetrahedra, and points of the block. Assumes nothing.
use Prim.Native.Nat.{ℕ, zero, suc, ◌+◌, ◌*◌, ◌-◌, ◌≤◌, ◌<◌}
use native.Mathlib.Omega.{arith}
use native.Mathlib.Nat.{mul-add, mul_comm, mul_assoc}
use mathlib.Core.Path.{◌≡◌, refl, sym, ap, ◌∙◌}
use mathlib.Core.Bool.{Bool}
use lib.Dec.{T, eqb, eqb→eq}
use Rattle.basics.proofs.Test.{◌&◌}
use Rattle.basics.proofs.Finite.{each, each_use}
use Rattle.lattice.specs.declared.Sizes.{Sizes}
use Rattle.lattice.specs.declared.Kind.{Kind}
use Rattle.lattice.specs.declared.Kind.TheVariants.{Corner, Centre}
use Rattle.lattice.specs.Axis.{Axis, along_x, along_y, along_z, xyz}
use Rattle.lattice.specs.Counts.{Sized, largest, size, grid, points}
use Rattle.lattice.specs.Point.{linear, number}
use Rattle.lattice.proofs.Axes.{the_axes}
use Rattle.lattice.proofs.Bounds.{points_small}
use Rattle.lattice.proofs.Number.{number_lt}
use Rattle.stencil.specs.Tetrahedron.{Tetrahedron, Vertex, v0, v1, v2, v3, Quarter, q0, q1, q2, q3, kind, unit, around, offset, corner, corner_number}
use Rattle.stencil.proofs.Corners.{the_vertices, the_quarters}
use Rattle.stencil.proofs.Valid.{corner_inside}
use Rattle.emit.specs.declared.Cube.{Cube}
use Rattle.rows.specs.inner.Corners.{corner_of}
use Rattle.emit.specs.inner.Cubes.{point_of, face_at, low_end, high_end, KnownCube, quarter_of}
use Rattle.emit.specs.inner.Passes.{moved_cube, shifted, first_cube, first_corner, first_centre, KnownRun, step_by, pass_of, InPass}

-- the six points: a centre or a corner of the shared face
pub data Six : Type 0 where
  lower upper : Six
  face : Quarter → Six

abbrev pub six_point : Cube → Six → ℕ
six_point c lower = point_of c 0
six_point c upper = point_of c 1
six_point c (face q) = face_at c q

abbrev pub six_kind : Six → Kind
six_kind lower = Centre
six_kind upper = Centre
six_kind (face q) = Corner

abbrev pub six_offset : Axis → Six → Axis → ℕ
six_offset a lower c = 0
six_offset a upper c = unit a c
six_offset a (face q) c = around a q c

-- which of them a corner of a tetrahedron is
abbrev pub among : Quarter → Vertex → Six
among e v0 = face (low_end e)
among e v1 = face (high_end e)
among e v2 = lower
among e v3 = upper

corner_of_law : (c : Cube) (e : Quarter) (v : Vertex) → corner_of (quarter_of c e) v ≡ six_point c (among e v)
corner_of_law c e v0 = refl
corner_of_law c e v1 = refl
corner_of_law c e v2 = refl
corner_of_law c e v3 = refl

kind_of_law : (e : Quarter) (v : Vertex) → kind v ≡ six_kind (among e v)
kind_of_law e v0 = refl
kind_of_law e v1 = refl
kind_of_law e v2 = refl
kind_of_law e v3 = refl

-- where they stand, counted from the lower cube: all types, computed
same_offset : Axis → Quarter → Vertex → Axis → Bool
same_offset a e v c = eqb (offset a e v c) (six_offset a (among e v) c)

offsets_ok : T (each the_axes (λ a. each the_quarters (λ e. each the_vertices (λ v. each the_axes (same_offset a e v)))))
unfolding ◌&◌ same_offset offset around unit
offsets_ok = tt

offset_is : (a : Axis) (e : Quarter) (v : Vertex) (c : Axis) → offset a e v c ≡ six_offset a (among e v) c
unfolding same_offset
offset_is a e v c =
    let t = each_use the_axes (λ a. each the_quarters (λ e. each the_vertices (λ v. each the_axes (same_offset a e v)))) offsets_ok a in
    let u = each_use the_quarters (λ e. each the_vertices (λ v. each the_axes (same_offset a e v))) t e in
    let w = each_use the_vertices (λ v. each the_axes (same_offset a e v)) u v in
    eqb→eq _ _ (each_use the_axes (same_offset a e v) w c)

-- a cell so far from the first of its line, by strides
shifted_cell : (m : Axis → ℕ) (x y z : ℕ) (d : Axis → ℕ)
    → linear m (λ c. xyz x y z c + d c)
    ≡ linear m (xyz 0 y z) + x + (d along_x + (d along_y * m along_x + d along_z * (m along_x * m along_y)))
unfolding linear
shifted_cell m x y z d = omega (arith, spread)
  where
    inner : y + d along_y + m along_y * (z + d along_z) ≡ y + m along_y * z + (d along_y + m along_y * d along_z)
    inner = omega (arith, mul-add (m along_y) z (d along_z))

    far : m along_x * (d along_y + m along_y * d along_z) ≡ d along_y * m along_x + d along_z * (m along_x * m along_y)
    far =
        mul-add (m along_x) (d along_y) (m along_y * d along_z)
        ∙ (λ i. mul_comm (m along_x) (d along_y) i
        + (sym (mul_assoc (m along_x) (m along_y) (d along_z)) ∙ mul_comm (m along_x * m along_y) (d along_z)) i)

    spread :
        m along_x * (y + d along_y + m along_y * (z + d along_z))
        ≡ m along_x * (y + m along_y * z) + (d along_y * m along_x + d along_z * (m along_x * m along_y))
    spread =
        ap (λ (k : ℕ). m along_x * k) inner
        ∙ mul-add (m along_x) (y + m along_y * z) (d along_y + m along_y * d along_z)
        ∙ ap (λ (k : ℕ). m along_x * (y + m along_y * z) + k) far

-- the strides of the code are those of the six points
stride : Sizes → Kind → (Axis → ℕ) → ℕ
stride s k d = d along_x + (d along_y * grid s k along_x + d along_z * (grid s k along_x * grid s k along_y))

stride_is : (s : Sizes) (a : Axis) (p : Six) → six_point (pass_of s a).step p ≡ stride s (six_kind p) (six_offset a p)
unfolding pass_of step_by stride unit around
stride_is s along_x lower = omega arith
stride_is s along_x upper = omega arith
stride_is s along_x (face q0) = omega arith
stride_is s along_x (face q1) = omega arith
stride_is s along_x (face q2) = omega arith
stride_is s along_x (face q3) = omega arith
stride_is s along_y lower = omega arith
stride_is s along_y upper = omega arith
stride_is s along_y (face q0) = omega arith
stride_is s along_y (face q1) = omega arith
stride_is s along_y (face q2) = omega arith
stride_is s along_y (face q3) = omega arith
stride_is s along_z lower = omega arith
stride_is s along_z upper = omega arith
stride_is s along_z (face q0) = omega arith
stride_is s along_z (face q1) = omega arith
stride_is s along_z (face q2) = omega arith
stride_is s along_z (face q3) = omega arith

-- a point of a kind, from the first cube of its line
abbrev base : Sizes → Kind → ℕ → ℕ → ℕ
base s Corner y z = first_corner s y z
base s Centre y z = first_centre s y z

number_from_law : (s : Sizes) (k : Kind) (x y z : ℕ) (d : Axis → ℕ) → number s k (λ c. xyz x y z c + d c) ≡ base s k y z + x + stride s k d
unfolding stride
number_from_law s Corner x y z d = shifted_cell (grid s Corner) x y z d
number_from_law s Centre x y z d = omega (arith, shifted_cell (grid s Centre) x y z d)

-- a pass of the code is one of the block's
pub step_own : (s : Sizes) (a : Axis) → ((pass_of s a).step.n ≡ points s) × ((pass_of s a).step.axis < 3)
unfolding pass_of step_by
step_own s along_x = (refl, omega arith)
step_own s along_y = (refl, omega arith)
step_own s along_z = (refl, omega arith)

module _ (s : Sizes) (a : Axis) (z y x : ℕ) where
  -- the six points as the code counts them
  abbrev pub cube_of : Cube
  cube_of = shifted (first_cube s (pass_of s a) y z) x

  moved_point : (p : Six) → six_point cube_of p ≡ base s (six_kind p) y z + x + six_point (pass_of s a).step p
  unfolding shifted first_cube moved_cube
  moved_point lower = omega arith
  moved_point upper = omega arith
  moved_point (face q0) = omega arith
  moved_point (face q1) = omega arith
  moved_point (face q2) = omega arith
  moved_point (face q3) = omega arith

  abbrev pub tetrahedron : Quarter → Tetrahedron
  tetrahedron e = record { axis = a; cube = xyz x y z; edge = e }

  -- the corners of a tetrahedron are these points
  pub numbers_are : (e : Quarter) (v : Vertex) → corner_of (quarter_of cube_of e) v ≡ corner_number s (tetrahedron e) v
  unfolding corner_number corner
  numbers_are e v =
      corner_of_law cube_of e v
      ∙ moved_point (among e v)
      ∙ ap (λ (k : ℕ). base s (six_kind (among e v)) y z + x + k) (stride_is s a (among e v))
      ∙ sym (number_from_law s (six_kind (among e v)) x y z (six_offset a (among e v)))
      ∙ (λ i. number s (sym (kind_of_law e v) i) (λ c. xyz x y z c + sym (offset_is a e v c) i))

  module _ (h : (c : Axis) → xyz x y z c + unit a c < size s c) where
    corner_in : (e : Quarter) (v : Vertex) → corner_of (quarter_of cube_of e) v < points s
    unfolding corner_number
    corner_in e v = rw (numbers_are e v) (number_lt s (kind v) (corner (tetrahedron e) v) (corner_inside s (tetrahedron e) h v))

    points_are_in : (i : ℕ) → i < 6 → point_of cube_of i < points s
    points_are_in zero l = corner_in q0 v2
    points_are_in (suc zero) l = corner_in q0 v3
    points_are_in (suc (suc zero)) l = corner_in q0 v0
    points_are_in (suc (suc (suc zero))) l = corner_in q0 v1
    points_are_in (suc (suc (suc (suc zero)))) l = corner_in q1 v1
    points_are_in (suc (suc (suc (suc (suc zero))))) l = corner_in q3 v1
    points_are_in (suc (suc (suc (suc (suc (suc i)))))) l = absurd (omega arith)

    pub cube_known : Sized s → KnownCube (points s) cube_of
    unfolding shifted first_cube moved_cube
    cube_known k =
        record {
          block = (step_own s a).0;
          few = points_small s k;
          axis_in = (step_own s a).1;
          six = refl;
          points_in = points_are_in;
        }

-- how many cubes a pass has, and that they are the block's
pub counts_are : (s : Sizes) (a : Axis)
    → ((pass_of s a).cubes.nx ≡ size s along_x - unit a along_x) × ((pass_of s a).cubes.ny ≡ size s along_y - unit a along_y)
    × ((pass_of s a).cubes.nz ≡ size s along_z - unit a along_z)
unfolding pass_of unit
counts_are s along_x = omega arith
counts_are s along_y = omega arith
counts_are s along_z = omega arith

pub valid_at : (s : Sizes) (a : Axis) (z y x : ℕ) → z < size s along_z - unit a along_z → y < size s along_y - unit a along_y
    → x < size s along_x - unit a along_x → (c : Axis) → xyz x y z c + unit a c < size s c
valid_at s a z y x hz hy hx along_x = omega arith
valid_at s a z y x hz hy hx along_y = omega arith
valid_at s a z y x hz hy hx along_z = omega arith

pub pass_in : (s : Sizes) (a : Axis) → Sized s → InPass s (pass_of s a)
pass_in s a h = record { y_few = omega (arith, few); z_few = omega (arith, few); known = run }
  where
    few : ((pass_of s a).cubes.nx ≤ largest) × ((pass_of s a).cubes.ny ≤ largest) × ((pass_of s a).cubes.nz ≤ largest)
    few = omega (arith, counts_are s a)

    run : (z y : ℕ) → z < (pass_of s a).cubes.nz → y < (pass_of s a).cubes.ny
        → KnownRun (points s) (first_cube s (pass_of s a) y z) (pass_of s a).cubes.nx
    run z y hz hy =
        record {
          few = few.0;
          known = λ x hx.
              cube_known s a z y x
              (valid_at s a z y x (omega (arith, counts_are s a)) (omega (arith, counts_are s a)) (omega (arith, counts_are s a)))
              h;
        }
