-- The edges of a lattice tetrahedron. The code between two corners leads from the lower to the higher one: a computed
-- test of the twelve types. So the edge leads from its start, by its direction, to its other end. Assumes nothing.
--
--   counted              the doubled coordinates of a corner, counted from the lower cube
--   code_in               the code from one corner to another
--   start, finish, way   the corner from which their edge has a direction, the other one, and the direction
use Prim.Native.Nat.{ℕ, ◌+◌, ◌*◌, ◌<◌}
use mathlib.Core.Path.{◌≡◌, sym}
use mathlib.Core.Bool.{Bool, true, false}
use native.Mathlib.Omega.{arith}
use lib.Dec.{T, ltb, lt→ltb, leb, leb→le, eqb, eqb→eq}
use Rattle.std.specs.Prelude.{if◌then◌else◌}
use Rattle.basics.specs.Lists.{first_from}
use Rattle.basics.proofs.Test.{◌&◌, and_l, and_r, imp, imp_use}
use Rattle.basics.proofs.Tested.{Tested, tested, ◌⊗◌}
use Rattle.lattice.specs.declared.Kind.{Kind}
use Rattle.lattice.specs.declared.Kind.TheVariants.{Corner, Centre}
use Rattle.lattice.specs.Axis.{Axis}
use Rattle.lattice.specs.Point.{doubled}
use Rattle.lattice.specs.Direction.{Code, Step, directions, direction, reversed, is_start, direction_of, step}
use Rattle.lattice.proofs.Axes.{the_axes, everywhere_use}
use Rattle.lattice.proofs.Codes.{direction_lt}
use Rattle.lattice.proofs.Edge.{Leads}
use Rattle.moving.specs.declared.Label.{Label}
use Rattle.moving.specs.Label.{opposed}
use Rattle.moving.proofs.Labels.{opposed_sym}
use Rattle.stencil.specs.Tetrahedron.{Tetrahedron, Vertex, Quarter, kind, offset, around, unit, corner}
use Rattle.stencil.specs.Stencil.{rank}
use Rattle.stencil.specs.Id.{leads_to, code_between, start_of}
use Rattle.stencil.proofs.Corners.{the_vertices, the_quarters}

joins : Axis → Quarter → Vertex → Vertex → Bool
joins a e u v =
    let c = code_between a e u v in
    imp (ltb (rank u) (rank v)) (leb 1 c & (leb c 14 & leads_to a e u v c))

all_join :
    Tested (the_axes ⊗ the_quarters ⊗ the_vertices ⊗ the_vertices) (λ x. joins x.0 x.1.0 x.1.1.0 x.1.1.1)
unfolding ◌&◌ joins code_between first_from leads_to offset around unit step direction directions is_start direction_of
all_join = record { passed = tt }

-- corners in doubled coordinates
abbrev pub counted : Tetrahedron → Vertex → Axis → ℕ
counted t v a = doubled (kind v) (offset t.axis t.edge v a)

doubled_sum : (k : Kind) (i o : ℕ) → doubled k (i + o) ≡ 2 * i + doubled k o
doubled_sum Corner i o = omega arith
doubled_sum Centre i o = omega arith

pub counted_corner : (t : Tetrahedron) (v : Vertex) (a : Axis)
    → doubled (kind v) (corner t v a) ≡ 2 * t.cube a + counted t v a
unfolding corner
counted_corner t v a = doubled_sum (kind v) (t.cube a) (offset t.axis t.edge v a)

abbrev pub code_in : Tetrahedron → Vertex → Vertex → ℕ
code_in t u v = code_between t.axis t.edge u v

abbrev pub start : Tetrahedron → Vertex → Vertex → Vertex
start t u v = start_of (code_in t u v) u v

abbrev pub finish : Tetrahedron → Vertex → Vertex → Vertex
finish t u v = start_of (code_in t u v) v u

abbrev pub way : Tetrahedron → Vertex → Vertex → ℕ
way t u v = direction_of (code_in t u v)

module _ (t : Tetrahedron) (u v : Vertex) (low : rank u < rank v) where
  joined : T (leb 1 (code_in t u v) & (leb (code_in t u v) 14 & leads_to t.axis t.edge u v (code_in t u v)))
  unfolding joins
  joined = imp_use (ltb (rank u) (rank v)) _ (tested all_join (t.axis, (t.edge, (u, v)))) (lt→ltb _ _ low)

  pub between_code : Code (code_in t u v)
  between_code = record { low = leb→le _ _ (and_l _ _ joined); high = leb→le _ _ (and_l _ _ (and_r _ _ joined)) }

  pub way_lt : way t u v < 7
  way_lt = direction_lt (code_in t u v) between_code

  leads : (a : Axis) → counted t v a + (step (code_in t u v) a).down ≡ counted t u a + (step (code_in t u v) a).up
  unfolding leads_to
  leads a =
      let c = code_in t u v in
      eqb→eq _ _ (everywhere_use (λ a. eqb (counted t v a + (step c a).down) (counted t u a + (step c a).up))
      (and_r _ _ (and_r _ _ joined)) a)

  pub between_leads : Leads (kind u) (corner t u) (code_in t u v) (kind v) (corner t v)
  between_leads a = omega (arith, counted_corner t u a, counted_corner t v a, leads a)

  pub edge_leads : (a : Axis)
      → doubled (kind (finish t u v)) (corner t (finish t u v) a) + (direction (way t u v) a).down
      ≡ doubled (kind (start t u v)) (corner t (start t u v) a) + (direction (way t u v) a).up
  unfolding step
  edge_leads a = go (is_start (code_in t u v)) (between_leads a)
    where
      at : Vertex → ℕ
      at w = doubled (kind w) (corner t w a)

      d : Step
      d = direction (way t u v) a

      go : (b : Bool)
          → at v + (if b then d else reversed d).down ≡ at u + (if b then d else reversed d).up
          → at (if b then v else u) + d.down ≡ at (if b then u else v) + d.up
      go true e = e
      go false e = sym e

-- labels that are opposed are so along the edge
pub opposed_along : (l : Vertex → Label) (t : Tetrahedron) (u v : Vertex) → T (opposed (l u) (l v))
    → T (opposed (l (start t u v)) (l (finish t u v)))
opposed_along l t u v o = go (is_start (code_in t u v))
  where
    go : (b : Bool) → T (opposed (l (if b then u else v)) (l (if b then v else u)))
    go true = o
    go false = opposed_sym (l u) (l v) o
