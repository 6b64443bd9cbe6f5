-- Where a point stands after moving: on its lattice place, or within its limit along one of its fourteen directions. Assumes nothing.
use Prim.Native.Nat.{ℕ, ◌-◌, ◌≤◌}
use native.Mathlib.Omega.{arith}
use mathlib.Core.Path.{◌≡◌, refl, sym, ap, ◌∙◌}
use mathlib.Core.Bool.{Bool, true, false}
use mathlib.Core.List.{List}
use lib.IntN.{pos, ◌+ℤ◌, ◌*ℤ◌}
use lib.ListN.{get_or}
use lib.Dec.{T}
use Rattle.std.specs.Prelude.{if◌then◌else◌, Some}
use Rattle.basics.proofs.Test.{T_true}
use Rattle.lattice.specs.declared.Kind.{Kind}
use Rattle.lattice.specs.Axis.{Axis}
use Rattle.lattice.specs.Point.{doubled, Inside, number}
use Rattle.lattice.specs.Direction.{Code, is_start, direction_of, step}
use Rattle.lattice.specs.Edge.{near, byte_at, edge_byte}
use Rattle.lattice.proofs.Edge.{FarEnd, far_end, near_number}
use Rattle.moving.specs.Violation.{limit, measured}
use Rattle.moving.specs.State.{is_move}
use Rattle.moving.specs.Reading.{Reading, cut_along}
use Rattle.moving.specs.Block.{Bytes}
use Rattle.moving.proofs.Settled.{Violating}
use Rattle.moving.proofs.Bytes.{violates_within}
use Rattle.geometry.specs.Place.{Place, lattice_place, rest, signed, cut_place, moved_place, point_place}
use Rattle.geometry.proofs.FromEnd.{rest_along, from_end}

-- t steps from a lattice place by the code c, t within the code's limit (to warp is the field's word for this move)
pub record Warped (m : Reading) (c : ℕ) (k : Kind) (i : Axis → ℕ) (p : Place) : Type 0 where
  pub code : Code c
  pub t : ℕ
  pub within : t ≤ limit m.rule (direction_of c)
  pub is : (a : Axis) → p a ≡ lattice_place k i a +ℤ pos t *ℤ signed (step c a)

-- t, "measured from that end (t or 256-t)": from the start or not
abbrev from : Bool → ℕ → ℕ
from z t = if z then t else 256 - t

module _ (m : Reading) (k : Kind) (i : Axis → ℕ) (inside : Inside m.sizes k i) where
  abbrev p : ℕ
  p = number m.sizes k i

  -- a point that did not move stands on its lattice place
  pub still_stands : (codes : List ℕ) → is_move (get_or codes p 0) ≡ false
      → (a : Axis) → point_place m.sizes m.cuts codes p a ≡ lattice_place k i a
  unfolding point_place
  still_stands codes e a = rw e (rest_along m.sizes k i inside a)

  module _ (bytes : Bytes m.cuts) where
    abbrev byte : ℕ → ℕ → ℕ
    byte q d = get_or m.cuts (byte_at q d) 0

    -- the cut of the edge from this point by code c to the point q, seen from this point, be it the start or not
    cut_is : (c q : ℕ) → FarEnd m.sizes k i c q → (z : Bool) → is_start c ≡ z → (a : Axis)
        → cut_place m.sizes m.cuts (if z then p else q) (direction_of c) a
        ≡ lattice_place k i a +ℤ pos (from z (byte (if z then p else q) (direction_of c))) *ℤ signed (step c a)
    unfolding cut_place step lattice_place
    cut_is c q far true e a = rw (e, rest_along m.sizes k i inside a) refl
    cut_is c q far false e a =
        let x = doubled k (i a) in
        let y = doubled far.kind (far.index a) in
        let t = byte q (direction_of c) in
        rw (e, rest_far) (from_end x y _ _ t (omega (arith, bytes (byte_at q (direction_of c)))) (rw e at (far.leads a)))
      where
        rest_far : rest m.sizes q a ≡ lattice_place far.kind far.index a
        rest_far =
            ap (λ (n : ℕ). rest m.sizes n a) far.is
            ∙ rest_along m.sizes far.kind far.index far.inside a

    -- a point that a cut violates, moved there
    warped : (codes : List ℕ) (c q : ℕ) → Violating m codes p c q
        → Warped m c k i (cut_place m.sizes m.cuts (if is_start c then p else q) (direction_of c))
    unfolding measured edge_byte
    warped codes c q v =
        let e = v.edge in
        let t = cut_along m p c q in
        let leads : near m.sizes k i c ≡ Some q = sym (near_number m.sizes k i inside c) ∙ e.leads in
        record {
          code = e.code;
          t = measured c t;
          within = violates_within m.rule c t v.near;
          is = cut_is c q (far_end m.sizes k i c q inside e.code leads) (is_start c) refl;
        }

    pub moved_within : (start codes : List ℕ) (q : ℕ) → T (is_move (get_or codes p 0)) → Violating m start p (get_or codes p 0) q
        → Warped m (get_or codes p 0) k i (point_place m.sizes m.cuts codes p)
    unfolding point_place moved_place
    moved_within start codes q t v =
        rw (T_true (is_move (get_or codes p 0)) t, v.edge.leads) (warped start (get_or codes p 0) q v)
