-- All cubes with a next one along an axis, by strides, and what is written for them.
use Rattle.std.specs.Prelude.{ℕ, ◌+◌, ◌*◌, ◌-◌, ◌≤◌, ◌<◌, List, [], ◌∷◌}
use Rattle.basics.specs.Lists.{gather, below}
use Rattle.lattice.specs.declared.Sizes.{Sizes}
use Rattle.lattice.specs.declared.Kind.TheVariants.{Corner, Centre}
use Rattle.lattice.specs.Axis.{Axis, along_x, along_y, along_z, xyz}
use Rattle.lattice.specs.Counts.{largest, grid, corners, points}
use Rattle.lattice.specs.Point.{linear}
use Rattle.moving.specs.declared.Label.{Label}
use Rattle.stencil.specs.Tetrahedron.{axes}
use Rattle.emit.specs.declared.Cube.{Cube}
use Rattle.emit.specs.declared.Pass.{Pass}
use Rattle.emit.specs.inner.Cubes.{point_of, KnownCube, cube_ids, cube_most}

-- six points counted from a corner and a centre
unfoldable pub moved_cube : Cube → ℕ → ℕ → Cube
moved_cube c corner centre =
    record {
      n = c.n;
      axis = c.axis;
      points =
          (centre + point_of c 0)
          ∷ (centre + point_of c 1)
          ∷ (corner + point_of c 2)
          ∷ (corner + point_of c 3)
          ∷ (corner + point_of c 4)
          ∷ (corner + point_of c 5)
          ∷ [];
    }

-- six points that are so many on along x
unfoldable pub shifted : Cube → ℕ → Cube
shifted c x =
    record {
      n = c.n;
      axis = c.axis;
      points =
          (point_of c 0 + x)
          ∷ (point_of c 1 + x)
          ∷ (point_of c 2 + x)
          ∷ (point_of c 3 + x)
          ∷ (point_of c 4 + x)
          ∷ (point_of c 5 + x)
          ∷ [];
    }

-- the lowest corner and the centre of the first cube of a line
abbrev pub first_corner : Sizes → ℕ → ℕ → ℕ
first_corner s y z = linear (grid s Corner) (xyz 0 y z)

abbrev pub first_centre : Sizes → ℕ → ℕ → ℕ
first_centre s y z = corners s + linear (grid s Centre) (xyz 0 y z)

-- so many cubes side by side along x, from the first one on
pub record KnownRun (n : ℕ) (first : Cube) (count : ℕ) : Type 0 where
  pub few : count ≤ largest
  pub known : (x : ℕ) → x < count → KnownCube n (shifted first x)

-- what is written for one of them, and for all, when points have these labels
module _ (label : ℕ → Label) (first : Cube) where
  unfoldable pub placed_ids : ℕ → List ℕ
  placed_ids x = cube_ids label (shifted first x)

  unfoldable pub run_ids : ℕ → List ℕ
  run_ids count = gather placed_ids (below count)

-- the first cube of a line of a pass
unfoldable pub first_cube : Sizes → Pass → ℕ → ℕ → Cube
first_cube s p y z = moved_cube p.step (first_corner s y z) (first_centre s y z)

-- a pass whose six points are always points of the block
pub record InPass (s : Sizes) (p : Pass) : Type 0 where
  pub y_few : p.cubes.ny ≤ largest
  pub z_few : p.cubes.nz ≤ largest
  pub known : (z y : ℕ) → z < p.cubes.nz → y < p.cubes.ny → KnownRun (points s) (first_cube s p y z) p.cubes.nx

-- what is written for a line, for a layer and for the whole pass
module _ (s : Sizes) (p : Pass) (label : ℕ → Label) where
  unfoldable pub line_ids : ℕ → ℕ → List ℕ
  line_ids z y = run_ids label (first_cube s p y z) p.cubes.nx

  unfoldable pub layer_ids : ℕ → List ℕ
  layer_ids z = gather (line_ids z) (below p.cubes.ny)

  unfoldable pub pass_ids : List ℕ
  pass_ids = gather layer_ids (below p.cubes.nz)

-- at most so many numbers
abbrev pub line_most : ℕ
line_most = largest * cube_most

abbrev pub layer_most : ℕ
layer_most = largest * line_most

abbrev pub pass_most : ℕ
pass_most = largest * layer_most

-- no stride of corners is longer: that of a layer
abbrev pub stride_most : ℕ
stride_most = (largest + 1) * (largest + 1)

-- the six points by the strides of the corners along the axis, the next one and the one after, in a block of n points
unfoldable pub step_by : ℕ → ℕ → ℕ → ℕ → ℕ → ℕ → Cube
step_by n axis high u v w = record { n = n; axis = axis; points = 0 ∷ high ∷ u ∷ (u + v) ∷ (u + v + w) ∷ (u + w) ∷ [] }

-- the pass along an axis
unfoldable pub pass_of : Sizes → Axis → Pass
pass_of s along_x =
    record {
      step = step_by (points s) 0 1 1 (s.nx + 1) ((s.nx + 1) * (s.ny + 1));
      cubes = record { nx = s.nx - 1; ny = s.ny; nz = s.nz };
    }
pass_of s along_y =
    record {
      step = step_by (points s) 1 s.nx (s.nx + 1) ((s.nx + 1) * (s.ny + 1)) 1;
      cubes = record { nx = s.nx; ny = s.ny - 1; nz = s.nz };
    }
pass_of s along_z =
    record {
      step = step_by (points s) 2 (s.nx * s.ny) ((s.nx + 1) * (s.ny + 1)) 1 (s.nx + 1);
      cubes = record { nx = s.nx; ny = s.ny; nz = s.nz - 1 };
    }

-- all rows of a block
unfoldable pub block_ids : Sizes → (ℕ → Label) → List ℕ
block_ids s label = gather (λ a. pass_ids s (pass_of s a) label) axes
