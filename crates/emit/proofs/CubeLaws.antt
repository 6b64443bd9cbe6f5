-- Laws of the tetrahedra between a cube and the next one along an axis. Assumes nothing.
use Prim.Native.Nat.{ℕ, zero, suc, ◌+◌, ◌*◌, ◌≤◌, ◌<◌}
use native.Mathlib.Omega.{arith}
use mathlib.Core.Path.{◌≡◌, refl, sym, ap, ◌∙◌}
use mathlib.Core.Logic.{inl, inr}
use mathlib.Core.Bool.{Bool, true, false}
use mathlib.Core.List.{List, [], ◌∷◌, ◌++◌}
use borrow.Author.Tests.{le-leb, eqb-true}
use lib.ListN.{length, get_or, length-append}
use Rattle.basics.specs.Lists.{gather, from, below}
use Rattle.basics.proofs.Written.{bounded}
use Rattle.moving.specs.declared.Label.{Label}
use Rattle.moving.specs.declared.Label.TheVariants.{Minus, Zero, Plus}
use Rattle.moving.specs.Label.{is_plus}
use Rattle.moving.specs.Reading.{label_after}
use Rattle.moving.proofs.Bytes.{same_or, label_still, label_moved}
use Rattle.stencil.specs.Stencil.{stencil_of}
use Rattle.stencil.specs.Tetrahedron.{Vertex, v0, v1, v2, v3, Quarter, q0, q1, q2, q3}
use Rattle.stencil.specs.inner.Sign.{winds}
use Rattle.rows.specs.declared.Tetra.{Tetra}
use Rattle.rows.specs.inner.Corners.{KnownTetra, quarter_at, corner_of}
use Rattle.rows.specs.inner.Picks.{weight, sum}
use Rattle.rows.specs.inner.Stencils.{row_count, tetra_ids, tetra_most, solid}
use Rattle.rows.proofs.StencilLaws.{tetra_long, tetra_most_law, empty, solid_long}
use Rattle.emit.specs.declared.Cube.{Cube}
use Rattle.emit.specs.inner.Cubes.{point_of, face_index, low_end, high_end, edge_number, quarter_of, quarter_labels}
use Rattle.emit.specs.inner.Cubes.{KnownCube, counted, total, plus_at, plus_count, unmoved}
use Rattle.emit.specs.inner.Cubes.{solid_cube, edge_count, cube_count, cube_labels, edge_ids, cube_ids, cube_most, Room}

pub known_as : {m n : ℕ} {c : Cube} → m ≡ n → KnownCube n c → KnownCube m c
known_as e k = rw e k

-- a cube's own block is the one that it is of
pub own_block : {n : ℕ} {c : Cube} → KnownCube n c → KnownCube c.n c
own_block k = known_as k.block k

face_lt : (q : Quarter) → face_index q < 6
face_lt q0 = omega arith
face_lt q1 = omega arith
face_lt q2 = omega arith
face_lt q3 = omega arith

edge_few : (q : Quarter) → edge_number q < 4
edge_few q0 = omega arith
edge_few q1 = omega arith
edge_few q2 = omega arith
edge_few q3 = omega arith

-- the last edge, for any number that is none of the others
pub last_edge : (e : ℕ) → (e ≡ 0 → ⊥) → (e ≡ 1 → ⊥) → (e ≡ 2 → ⊥) → q3 ≡ quarter_at e
last_edge zero p q r = absurd (p refl)
last_edge (suc zero) p q r = absurd (q refl)
last_edge (suc (suc zero)) p q r = absurd (r refl)
last_edge (suc (suc (suc e))) p q r = refl

quarter_known : {n : ℕ} {c : Cube} → KnownCube n c → (q : Quarter) → KnownTetra (quarter_of c q)
quarter_known {n} {c} k q = record { few = omega (arith, k.block, k.few); axis_in = k.axis_in; edge_in = edge_few q; corner_in = in_block }
  where
    in_block : (v : Vertex) → corner_of (quarter_of c q) v < c.n
    in_block v0 = omega (arith, k.block, k.points_in (face_index (low_end q)) (face_lt (low_end q)))
    in_block v1 = omega (arith, k.block, k.points_in (face_index (high_end q)) (face_lt (high_end q)))
    in_block v2 = omega (arith, k.block, k.points_in 0 (omega arith))
    in_block v3 = omega (arith, k.block, k.points_in 1 (omega arith))

-- one edge of the turn, as the code has it
module _ (c : Cube) (l : List Label) (e : ℕ) {wound : Bool} {t : Tetra} (p : wound ≡ winds (quarter_at e))
    (q : t ≡ quarter_of c (quarter_at e)) where
  pub edge_is : {v : List Label} → v ≡ quarter_labels l (quarter_at e) → tetra_ids wound t v ≡ edge_ids c l e
  unfolding edge_ids
  edge_is r = λ i. tetra_ids (p i) (q i) (r i)

pub edge_known : (c : Cube) (e : ℕ) {t : Tetra} {n : ℕ} → t ≡ quarter_of c (quarter_at e) → KnownCube n c → KnownTetra t
edge_known c e q k = rw q (quarter_known k (quarter_at e))

edge_long : (c : Cube) (l : List Label) (e : ℕ) → length (edge_ids c l e) ≡ 4 * edge_count l e
unfolding edge_ids edge_count
edge_long c l e = let q = quarter_at e in tetra_long (winds q) (quarter_of c q) (quarter_labels l q)

pub edge_most : (c : Cube) (l : List Label) (e : ℕ) → length (edge_ids c l e) ≤ tetra_most
unfolding edge_ids
edge_most c l e = let q = quarter_at e in tetra_most_law (winds q) (quarter_of c q) (quarter_labels l q)

module _ (label : ℕ → Label) (c : Cube) where
  pub cube_as : (l : List Label) → l ≡ cube_labels label c → gather (edge_ids c l) (below 4) ≡ cube_ids label c
  unfolding cube_ids
  cube_as l e = ap (λ (x : List Label). gather (edge_ids c x) (below 4)) e

  pub cube_room : (ls : List Label) (l : List ℕ) (i : ℕ) → ls ≡ cube_labels label c → Room l i (length (cube_ids label c))
      → Room l i (length (gather (edge_ids c ls) (below 4)))
  cube_room ls l i e r = rw (cube_as ls e) r

  pub cube_most_law : length (cube_ids label c) ≤ cube_most
  unfolding cube_ids
  cube_most_law =
      let l = cube_labels label c in
      bounded (edge_ids c l) tetra_most 4 (λ j h. edge_most c l j) 4 (omega arith)

-- the rows of a cube, only counted: four numbers each
pub cube_counted : (c : Cube) (l : List Label) → 4 * cube_count l ≡ length (gather (edge_ids c l) (below 4))
unfolding cube_count gather from
cube_counted c l =
    omega (
      arith,
      edge_long c l 0,
      edge_long c l 1,
      edge_long c l 2,
      edge_long c l 3,
      length-append (ids 0) (ids 1 ++ (ids 2 ++ (ids 3 ++ []))),
      length-append (ids 1) (ids 2 ++ (ids 3 ++ [])),
      length-append (ids 2) (ids 3 ++ []),
      length-append (ids 3) [],
    )
  where
    ids : ℕ → List ℕ
    ids e = edge_ids c l e

-- counting them, edge after edge
unfoldable pub counted_to : List Label → ℕ → ℕ
counted_to l zero = 0
counted_to l (suc zero) = edge_count l 0
counted_to l (suc (suc zero)) = edge_count l 0 + edge_count l 1
counted_to l (suc (suc (suc zero))) = edge_count l 0 + edge_count l 1 + edge_count l 2
counted_to l (suc (suc (suc (suc e)))) = cube_count l

pub count_more : (l : List Label) (e : ℕ) → e < 4 → counted_to l e + edge_count l e ≡ counted_to l (e + 1)
unfolding counted_to cube_count
count_more l zero h = omega arith
count_more l (suc zero) h = omega arith
count_more l (suc (suc zero)) h = omega arith
count_more l (suc (suc (suc zero))) h = omega arith
count_more l (suc (suc (suc (suc e)))) h = absurd (omega arith)

pub counted_all : (l : List Label) (e : ℕ) → 4 ≤ e → counted_to l e ≡ cube_count l
unfolding counted_to
counted_all l (suc (suc (suc (suc e)))) h = refl
counted_all l zero h = absurd (omega arith)
counted_all l (suc zero) h = absurd (omega arith)
counted_all l (suc (suc zero)) h = absurd (omega arith)
counted_all l (suc (suc (suc zero))) h = absurd (omega arith)

pub edge_counted : (l : List Label) (e : ℕ) {v : List Label} {k : ℕ} → v ≡ quarter_labels l (quarter_at e)
    → k ≡ row_count (stencil_of (sum v)) → k ≡ edge_count l e
unfolding edge_count
edge_counted l e p q = q ∙ ap (λ (x : List Label). row_count (stencil_of (sum x))) p

-- a cube of six plus points
pub solid_quarter : (q : Quarter) → solid ≡ quarter_labels solid_cube q
solid_quarter q0 = refl
solid_quarter q1 = refl
solid_quarter q2 = refl
solid_quarter q3 = refl

module _ (c : Cube) where
  pub solid_edge : (e : ℕ) {wound : Bool} {t : Tetra} → wound ≡ winds (quarter_at e) → t ≡ quarter_of c (quarter_at e)
      → tetra_ids wound t solid ≡ edge_ids c solid_cube e
  solid_edge e p q = edge_is c solid_cube e p q (solid_quarter (quarter_at e))

  pub solid_edge_most : (e : ℕ) → e < 4 → length (edge_ids c solid_cube e) ≤ 4
  solid_edge_most e h =
      let long = solid_long (winds (quarter_at e)) (quarter_of c (quarter_at e)) in
      omega (arith, long, ap length (solid_edge e refl refl))

  pub solid_cube_long : length (gather (edge_ids c solid_cube) (below 4)) ≡ 16
  unfolding cube_count edge_count row_count stencil_of sum weight
  solid_cube_long = sym (cube_counted c solid_cube)

-- the weight of a label that is not plus, and a label that is
plain : (l : Label) → counted (is_plus l) ≡ 0 → weight l ≤ 1
unfolding weight is_plus
plain Minus e = omega arith
plain Zero e = omega arith
plain Plus e = absurd (omega arith)

all_plus : (l : Label) → counted (is_plus l) ≡ 1 → l ≡ Plus
unfolding is_plus
all_plus Minus e = absurd (omega arith)
all_plus Zero e = absurd (omega arith)
all_plus Plus e = refl

at_most_one : (b : Bool) → counted b ≤ 1
at_most_one true = omega arith
at_most_one false = omega arith

no_row : (m : ℕ) → m ≤ 4 → row_count (stencil_of m) ≡ 0
unfolding stencil_of row_count
no_row m h = simp (le-leb _ _ h)

-- f at the first k of the six points, added up
module _ (f : ℕ → ℕ) (c : Cube) where
  unfoldable pub total_to : ℕ → ℕ
  total_to zero = 0
  total_to (suc zero) = f (point_of c 0)
  total_to (suc (suc zero)) = f (point_of c 0) + f (point_of c 1)
  total_to (suc (suc (suc zero))) = f (point_of c 0) + f (point_of c 1) + f (point_of c 2)
  total_to (suc (suc (suc (suc zero)))) = f (point_of c 0) + f (point_of c 1) + (f (point_of c 2) + f (point_of c 3))
  total_to (suc (suc (suc (suc (suc zero))))) =
      f (point_of c 0) + f (point_of c 1) + (f (point_of c 2) + f (point_of c 3)) + f (point_of c 4)
  total_to (suc (suc (suc (suc (suc (suc k)))))) = total f c

  pub total_more : (k : ℕ) → k < 6 → total_to k + f (point_of c k) ≡ total_to (k + 1)
  unfolding total_to
  total_more zero h = omega arith
  total_more (suc zero) h = omega arith
  total_more (suc (suc zero)) h = omega arith
  total_more (suc (suc (suc zero))) h = omega arith
  total_more (suc (suc (suc (suc zero)))) h = omega arith
  total_more (suc (suc (suc (suc (suc zero))))) h = omega arith
  total_more (suc (suc (suc (suc (suc (suc k)))))) h = absurd (omega arith)

  pub total_all : (k : ℕ) → 6 ≤ k → total_to k ≡ total f c
  unfolding total_to
  total_all (suc (suc (suc (suc (suc (suc k)))))) h = refl
  total_all zero h = absurd (omega arith)
  total_all (suc zero) h = absurd (omega arith)
  total_all (suc (suc zero)) h = absurd (omega arith)
  total_all (suc (suc (suc zero))) h = absurd (omega arith)
  total_all (suc (suc (suc (suc zero)))) h = absurd (omega arith)
  total_all (suc (suc (suc (suc (suc zero))))) h = absurd (omega arith)

-- the same holds of all six points
record Six (P : ℕ → Type 0) (c : Cube) : Type 0 where
  low_is : P (point_of c 0)
  high_is : P (point_of c 1)
  mm_is : P (point_of c 2)
  pm_is : P (point_of c 3)
  pp_is : P (point_of c 4)
  mp_is : P (point_of c 5)

each_of : {P Q : ℕ → Type 0} {c : Cube} → ((p : ℕ) → P p → Q p) → Six P c → Six Q c
each_of {c = c} f s =
    record {
      low_is = f (point_of c 0) s.low_is;
      high_is = f (point_of c 1) s.high_is;
      mm_is = f (point_of c 2) s.mm_is;
      pm_is = f (point_of c 3) s.pm_is;
      pp_is = f (point_of c 4) s.pp_is;
      mp_is = f (point_of c 5) s.mp_is;
    }

module _ (f : ℕ → ℕ) (c : Cube) where
  all_zero : total f c ≡ 0 → Six (λ p. f p ≡ 0) c
  all_zero e =
      record { low_is = omega arith; high_is = omega arith; mm_is = omega arith; pm_is = omega arith; pp_is = omega arith; mp_is = omega arith }

  all_one : ((p : ℕ) → f p ≤ 1) → total f c ≡ 6 → Six (λ p. f p ≡ 1) c
  all_one h e =
      let i = h (point_of c 0) in
      let j = h (point_of c 1) in
      let k = h (point_of c 2) in
      let l = h (point_of c 3) in
      let m = h (point_of c 4) in
      let n = h (point_of c 5) in
      record { low_is = omega arith; high_is = omega arith; mm_is = omega arith; pm_is = omega arith; pp_is = omega arith; mp_is = omega arith }

module _ (label : ℕ → Label) (c : Cube) where
  -- six plus points
  pub solid_is : plus_count label c ≡ 6 → cube_labels label c ≡ solid_cube
  unfolding plus_count plus_at cube_labels
  solid_is e = λ i. plus.low_is i ∷ plus.high_is i ∷ plus.mm_is i ∷ plus.pm_is i ∷ plus.pp_is i ∷ plus.mp_is i ∷ []
    where
      plus : Six (λ p. label p ≡ Plus) c
      plus = each_of (λ p. all_plus (label p)) (all_one (plus_at label) c (λ p. at_most_one (is_plus (label p))) e)

  -- a cube without a plus gives nothing
  module _ (none : plus_count label c ≡ 0) where
    light : Six (λ p. weight (label p) ≤ 1) c
    unfolding plus_count plus_at
    light = each_of (λ p. plain (label p)) (all_zero (plus_at label) c none)

    bare_sum : (q : Quarter) → sum (quarter_labels (cube_labels label c) q) ≤ 4
    unfolding sum cube_labels
    bare_sum q0 = let l = light in omega arith
    bare_sum q1 = let l = light in omega arith
    bare_sum q2 = let l = light in omega arith
    bare_sum q3 = let l = light in omega arith

    bare_edge : (e : ℕ) → edge_ids c (cube_labels label c) e ≡ []
    unfolding edge_count
    bare_edge e =
        empty _ (edge_long c (cube_labels label c) e ∙ ap (λ (m : ℕ). 4 * m) (no_row _ (bare_sum (quarter_at e))))

    pub bare_cube : cube_ids label c ≡ []
    unfolding cube_ids gather from
    bare_cube = rw (bare_edge 0, bare_edge 1, bare_edge 2, bare_edge 3) refl

-- moving makes no label plus, and leaves those of points that have not moved
module _ (label : ℕ → Label) (state : List ℕ) where
  not_plus : (p : ℕ) → plus_at label p ≡ 0 → plus_at (label_after label state) p ≡ 0
  unfolding plus_at is_plus
  not_plus p e =
      elim (same_or (get_or state p 0) 0) [
        | inl z ↦ rw (label_still label state p z) e
        | inr n ↦ rw (label_moved label state p n) refl
      ]

  still_same : (p : ℕ) → get_or state p 0 ≡ 0 → plus_at (label_after label state) p ≡ plus_at label p
  unfolding plus_at
  still_same p z = rw (label_still label state p z) refl

  module _ (c : Cube) where
    pub bare_after : plus_count label c ≡ 0 → plus_count (label_after label state) c ≡ 0
    unfolding plus_count
    bare_after e = let n = each_of not_plus (all_zero (plus_at label) c e) in omega arith

    pub solid_after : plus_count label c ≡ 6 → unmoved state c ≡ true → plus_count (label_after label state) c ≡ 6
    unfolding plus_count unmoved
    solid_after e u =
        let unmoved-all = all_zero (λ p. get_or state p 0) c (eqb-true (total (λ p. get_or state p 0) c) 0 u) in
        let s = each_of still_same unmoved-all in
        omega arith

-- 1 for plus, 0 for any other
module _ (label : ℕ → Label) (p : ℕ) where
  pub plus_one : is_plus (label p) ≡ true → 1 ≡ plus_at label p
  unfolding plus_at
  plus_one t = simp t

  pub plus_none : is_plus (label p) ≡ false → 0 ≡ plus_at label p
  unfolding plus_at
  plus_none t = simp t
