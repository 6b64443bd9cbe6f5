-- Laws of the table of cuts, as the code reads it. Assumes nothing.
use Prim.Native.Nat.{ℕ, zero, suc, ◌+◌, ◌*◌, ◌/◌, ◌%◌, ◌<◌, min}
use native.Mathlib.Omega.{arith}
use mathlib.Core.Path.{◌≡◌, refl, ◌∙◌}
use mathlib.Core.Bool.{Bool, true, false}
use lib.Dec.{ltb}
use lib.ListN.{get_or}
use Rattle.std.specs.Prelude.{if◌then◌else◌}
use Rattle.lattice.specs.Axis.{Axis}
use Rattle.lattice.specs.Direction.{direction_of}
use Rattle.stencil.specs.Tetrahedron.{Vertex, v0, v1, v2, v3, Quarter}
use Rattle.stencil.specs.Stencil.{rank}
use Rattle.stencil.specs.Id.{code_between}
use Rattle.rows.specs.declared.Tetra.{Tetra}
use Rattle.rows.specs.declared.Corner.TheVariants.{Edge}
use Rattle.rows.specs.inner.Corners.{axis_at, quarter_at, vertex_at, start_between, way_between, cut_at, KnownTetra}
use Rattle.rows.proofs.CutTable.{cut_entry, cut_entry_law}

pub rank_lt : (v : Vertex) → rank v < 4
rank_lt v0 = omega arith
rank_lt v1 = omega arith
rank_lt v2 = omega arith
rank_lt v3 = omega arith

-- the rank of a corner by its number: from the fourth one on it is the fourth
pub rank_min : (v : ℕ) → rank (vertex_at v) ≡ min v 3
rank_min zero = refl
rank_min (suc zero) = refl
rank_min (suc (suc zero)) = refl
rank_min (suc (suc (suc v))) = omega arith

pub way_small : (a : Axis) (e : Quarter) (u v : Vertex) → way_between a e u v < 7
unfolding way_between direction_of
way_small a e u v = go (ltb (rank u) (rank v))
  where
    go : (b : Bool) → (if b then direction_of (code_between a e u v) else direction_of (code_between a e v u)) < 7
    go true = omega arith
    go false = omega arith

-- what the code reads from its table: the start, and the direction
module _ (t : Tetra) (u v : ℕ) (axis_in : t.axis < 3) (edge_in : t.edge < 4) (hu : u < 4) (hv : v < 4) where
  abbrev pub start : Vertex
  start = start_between (axis_at t.axis) (quarter_at t.edge) (vertex_at u) (vertex_at v)

  abbrev pub way : ℕ
  way = way_between (axis_at t.axis) (quarter_at t.edge) (vertex_at u) (vertex_at v)

  pub record Read (packed : ℕ) : Type 0 where
    pub start_lt : packed / 8 < 4
    pub way_lt : packed % 8 < 7
    pub number_lt : KnownTetra t → get_or t.corners (packed / 8) 0 < t.n
    pub cut_is : Edge (get_or t.corners (packed / 8) 0) (packed % 8) ≡ cut_at t u v

  pub read : {packed : ℕ} → packed ≡ cut_entry t.axis t.edge u v → Read packed
  unfolding cut_at
  read {packed} e =
      record {
        start_lt = omega (arith, is, small, rank_lt start);
        way_lt = omega (arith, is, small);
        number_lt = λ k. rw start_is (k.corner_in start);
        cut_is = λ i. Edge (get_or t.corners (start_is i) 0) (way_is i);
      }
    where
      is : packed ≡ 8 * rank start + way
      is = e ∙ cut_entry_law t.axis t.edge u v axis_in edge_in hu hv

      small : way < 7
      small = way_small (axis_at t.axis) (quarter_at t.edge) (vertex_at u) (vertex_at v)

      start_is : packed / 8 ≡ rank start
      start_is = omega (arith, is, small)

      way_is : packed % 8 ≡ way
      way_is = omega (arith, is, small)
