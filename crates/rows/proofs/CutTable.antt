-- The code's table of cuts, and that it holds the start and the direction of every cut: one computed test. Assumes nothing.
use Prim.Native.Nat.{ℕ, ◌+◌, ◌*◌, ◌<◌}
use mathlib.Core.Path.{◌≡◌}
use mathlib.Core.Bool.{Bool}
use mathlib.Core.List.{[]}
use lib.ListN.{get_or}
use lib.Dec.{T, eqb, eqb→eq}
use Rattle.basics.specs.Lists.{from, below, first_from}
use Rattle.basics.proofs.Test.{◌&◌, every, below_use}
use Rattle.lattice.specs.Direction.{directions, direction, is_start, direction_of, step}
use Rattle.stencil.specs.Tetrahedron.{unit, around, offset}
use Rattle.stencil.specs.Stencil.{rank}
use Rattle.stencil.specs.Id.{leads_to, code_between}
use Rattle.rows.specs.inner.Cuts.{cuts}
use Rattle.rows.specs.inner.Corners.{axis_at, quarter_at, vertex_at, start_between, way_between}

abbrev pub cut_entry : ℕ → ℕ → ℕ → ℕ → ℕ
cut_entry a e u v = get_or (get_or cuts (4 * a + e) []) (4 * u + v) 0

abbrev pub packed : ℕ → ℕ → ℕ → ℕ → ℕ
packed a e u v =
    let x = axis_at a in
    let q = quarter_at e in
    8 * rank (start_between x q (vertex_at u) (vertex_at v)) + way_between x q (vertex_at u) (vertex_at v)

right : ℕ → ℕ → ℕ → ℕ → Bool
right a e u v = eqb (cut_entry a e u v) (packed a e u v)

ok : T (every (λ a. every (λ e. every (λ u. every (right a e u) (below 4)) (below 4)) (below 4)) (below 3))
unfolding ◌&◌ right cuts from start_between way_between code_between first_from leads_to offset around unit step is_start direction_of direction directions
ok = tt

pub cut_entry_law : (a e u v : ℕ) → a < 3 → e < 4 → u < 4 → v < 4 → cut_entry a e u v ≡ packed a e u v
unfolding right
cut_entry_law a e u v ha he hu hv =
    let at-axis = below_use (λ a. every (λ e. every (λ u. every (right a e u) (below 4)) (below 4)) (below 4)) 3 ok a ha in
    let at_Edge = below_use (λ e. every (λ u. every (right a e u) (below 4)) (below 4)) 4 at-axis e he in
    let at_first = below_use (λ u. every (right a e u) (below 4)) 4 at_Edge u hu in
    eqb→eq _ _ (below_use (right a e u) 4 at_first v hv)
