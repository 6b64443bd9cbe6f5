-- Laws of cubes side by side: that their six points are points, and how much is written for them. Assumes nothing.
use Prim.Native.Nat.{ℕ, zero, suc, ◌+◌, ◌*◌, ◌-◌, ◌%◌, ◌≤◌, ◌<◌}
use native.Mathlib.Omega.{arith}
use mathlib.Core.Path.{◌≡◌, refl, sym, ap, ◌∙◌}
use mathlib.Core.List.{List, [], ◌∷◌}
use lib.ListN.{length, get_or, set}
use Rattle.basics.specs.Lists.{gather, from, below}
use Rattle.basics.proofs.Written.{bounded}
use Rattle.lattice.specs.declared.Sizes.{Sizes}
use Rattle.lattice.specs.Counts.{Sized, largest, corners, points}
use Rattle.lattice.specs.Point.{linear}
use Rattle.moving.specs.declared.Label.{Label}
use Rattle.rows.specs.inner.Corners.{axis_at}
use Rattle.rows.proofs.StencilLaws.{empty}
use Rattle.emit.specs.declared.Cube.{Cube}
use Rattle.emit.specs.declared.Pass.{Pass}
use Rattle.emit.specs.inner.Cubes.{point_of, KnownCube, plus_count, cube_ids, cube_most, Room}
use Rattle.emit.specs.inner.Passes.{moved_cube, shifted, first_cube, KnownRun, InPass, first_corner, first_centre, step_by, pass_of}
use Rattle.emit.specs.inner.Passes.{placed_ids, run_ids, line_ids, layer_ids, pass_ids, block_ids}
use Rattle.emit.specs.inner.Passes.{line_most, layer_most, pass_most}
use Rattle.emit.proofs.CubeLaws.{own_block, cube_most_law, bare_cube}
use Rattle.emit.proofs.Numbers.{pass_in}

module _ {n : ℕ} {first : Cube} {count : ℕ} (k : KnownRun n first count) {x : ℕ} (h : x < count) where
  pub run_known : {c : Cube} → c ≡ shifted first x → KnownCube n c
  run_known e = rw e (k.known x h)

  pub run_own : KnownCube first.n (shifted first x)
  unfolding shifted
  run_own = own_block (k.known x h)

module _ (label : ℕ → Label) (first : Cube) where
  pub placed_is : (x : ℕ) (c : Cube) → c ≡ shifted first x → cube_ids label c ≡ placed_ids label first x
  unfolding placed_ids
  placed_is x c e = ap (cube_ids label) e

  pub placed_most : (x : ℕ) → length (placed_ids label first x) ≤ cube_most
  unfolding placed_ids
  placed_most x = cube_most_law label (shifted first x)

  -- cubes without a plus, side by side, give nothing
  pub bare_run_ids : (count : ℕ) → ((x : ℕ) → x < count → plus_count label (shifted first x) ≡ 0) → run_ids label first count ≡ []
  unfolding run_ids placed_ids
  bare_run_ids count b =
      empty _ (omega (arith, bounded (placed_ids label first) 0 count none_placed count (omega arith)))
    where
      none_placed : (x : ℕ) → x < count → length (placed_ids label first x) ≤ 0
      none_placed x h = rw (bare_cube label (shifted first x) (b x h)) (omega arith)

  run_most : (count : ℕ) → count ≤ largest → length (run_ids label first count) ≤ line_most
  unfolding run_ids
  run_most count h =
      omega (arith, bounded (placed_ids label first) cube_most count (λ j l. placed_most j) count (omega arith))

module _ (s : Sizes) (p : Pass) (label : ℕ → Label) (h : InPass s p) (z : ℕ) (l : z < p.cubes.nz) where
  pub line_most_law : (y : ℕ) → y < p.cubes.ny → length (line_ids s p label z y) ≤ line_most
  unfolding line_ids
  line_most_law y m = run_most label (first_cube s p y z) p.cubes.nx (h.known z y l m).few

  pub layer_most_law : length (layer_ids s p label z) ≤ layer_most
  unfolding layer_ids
  layer_most_law = omega (arith, bounded (line_ids s p label z) line_most p.cubes.ny line_most_law p.cubes.ny (omega arith), h.y_few)

pub pass_most_law : (s : Sizes) (p : Pass) (label : ℕ → Label) → InPass s p → length (pass_ids s p label) ≤ pass_most
unfolding pass_ids
pass_most_law s p label h =
    omega (arith, bounded (layer_ids s p label) layer_most p.cubes.nz (λ z l. layer_most_law s p label h z l) p.cubes.nz (omega arith), h.z_few)

-- a line without a cube
pub no_line : (s : Sizes) (p : Pass) (label : ℕ → Label) (z y : ℕ) → p.cubes.nx ≡ 0 → line_ids s p label z y ≡ []
unfolding line_ids run_ids gather from
no_line s p label z y e = rw e refl

-- a line, from the numbers that the code computes
none_on : (k : ℕ) → k + 0 ≡ k
none_on k = omega arith

at_first : (c : Cube) (i j : ℕ) → shifted (moved_cube c i j) 0 ≡ moved_cube c i j
unfolding shifted moved_cube
at_first c i j =
    λ t. record {
      n = c.n;
      axis = c.axis;
      points =
          none_on (j + point_of c 0) t
          ∷ none_on (j + point_of c 1) t
          ∷ none_on (i + point_of c 2) t
          ∷ none_on (i + point_of c 3) t
          ∷ none_on (i + point_of c 4) t
          ∷ none_on (i + point_of c 5) t
          ∷ [];
    }

module _ (s : Sizes) (p : Pass) (z y : ℕ) {corner first second : ℕ} (e : corner ≡ 0 + (s.nx + 1) * (y + (s.ny + 1) * z))
    (f : first ≡ corners s) (g : second ≡ 0 + s.nx * (y + s.ny * z)) where
  pub first_is : moved_cube p.step corner (first + second) ≡ first_cube s p y z
  unfolding linear first_cube
  first_is = λ i. moved_cube p.step (e i) (f i + g i)

  pub first_known : InPass s p → z < p.cubes.nz → y < p.cubes.ny → 0 < p.cubes.nx
      → KnownCube p.step.n (moved_cube p.step corner (first + second))
  unfolding moved_cube first_cube
  first_known h l m some =
      let k = (h.known z y l m).known 0 some in
      own_block {n = points s} {c = moved_cube p.step corner (first + second)} (rw (first_is, sym (at_first p.step (first_corner s y z) (first_centre s y z))) k)

  pub line_known : {c : Cube} → c ≡ moved_cube p.step corner (first + second) → InPass s p → z < p.cubes.nz → y < p.cubes.ny
      → KnownRun (points s) c p.cubes.nx
  line_known c h l m = rw (c, first_is) (h.known z y l m)

  pub line_is : (label : ℕ → Label) {c : Cube} → c ≡ moved_cube p.step corner (first + second)
      → run_ids label c p.cubes.nx ≡ line_ids s p label z y
  unfolding line_ids
  line_is label c = ap (λ (x : Cube). run_ids label x p.cubes.nx) (c ∙ first_is)

  pub line_room : (label : ℕ → Label) {c : Cube} → c ≡ moved_cube p.step corner (first + second) → {l : List ℕ} {i : ℕ}
      → Room l i (length (line_ids s p label z y)) → Room l i (length (run_ids label c p.cubes.nx))
  line_room label c r = rw (line_is label c) r

-- the three passes by the numbers of their axes
module _ (s : Sizes) (label : ℕ → Label) where
  unfoldable pub pass_at : ℕ → List ℕ
  pass_at k = pass_ids s (pass_of s (axis_at k)) label

  pub pass_is : (k : ℕ) {p : Pass} → p ≡ pass_of s (axis_at k) → pass_ids s p label ≡ pass_at k
  unfolding pass_at
  pass_is k e = ap (λ (q : Pass). pass_ids s q label) e

  pub three_passes : gather pass_at (below 3) ≡ block_ids s label
  unfolding gather from block_ids pass_at
  three_passes = refl

  pub pass_at_most : Sized s → (k : ℕ) → length (pass_at k) ≤ pass_most
  unfolding pass_at
  pass_at_most h k = pass_most_law s (pass_of s (axis_at k)) label (pass_in s (axis_at k) h)

pub in_pass : (s : Sizes) (k : ℕ) {p : Pass} → p ≡ pass_of s (axis_at k) → Sized s → InPass s p
in_pass s k e h = rw e (pass_in s (axis_at k) h)

-- the pass along an axis by the axis' number, as the code puts it together
module _ (s : Sizes) (n a : ℕ) where
  abbrev pub corner_stride : ℕ → ℕ
  corner_stride k = get_or (1 ∷ (s.nx + 1) ∷ ((s.nx + 1) * (s.ny + 1)) ∷ []) k 0

  abbrev pub cubes_along : List ℕ
  cubes_along = let l = s.nx ∷ s.ny ∷ s.nz ∷ [] in set l a (get_or l a 0 - 1)

  abbrev pub coded_pass : Pass
  coded_pass =
      let u = corner_stride a in
      let v = corner_stride ((a + 1) % 3) in
      let w = corner_stride ((a + 2) % 3) in
      record {
        step =
            record {
              n = n;
              axis = a;
              points = 0 ∷ get_or (1 ∷ s.nx ∷ (s.nx * s.ny) ∷ []) a 0 ∷ u ∷ (u + v) ∷ (u + v + w) ∷ (u + w) ∷ [];
            };
        cubes = record { nx = get_or cubes_along 0 0; ny = get_or cubes_along 1 0; nz = get_or cubes_along 2 0 };
      }

pub along_is : (s : Sizes) (a : ℕ) → a < 3 → coded_pass s (points s) a ≡ pass_of s (axis_at a)
unfolding pass_of step_by
along_is s zero h = refl
along_is s (suc zero) h = refl
along_is s (suc (suc zero)) h = refl
along_is s (suc (suc (suc a))) h = absurd (omega arith)
