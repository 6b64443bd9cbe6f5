-- The places of a row's entries: that of a corner, or for a cut a mix of the places of the two corners that it stands
-- between. Assumes nothing.
--
--   Mix, flip    a place that is a mix of two others, and of the two the other way round
--   Brings       the place of an entry that brings in a corner
--   cut_place_law    the place of a cut is a mix of its ends' places
use Prim.Native.Nat.{ℕ, ◌+◌, ◌*◌, ◌-◌, ◌<◌}
use mathlib.Core.Path.{◌≡◌, sym, ◌∙◌, ap}
use mathlib.Core.Bool.{Bool, true, false, not}
use mathlib.Core.List.{List}
use native.Mathlib.Omega.{arith}
use lib.Dec.{T}
use lib.IntN.{ℤ, pos, ◌+ℤ◌, ◌*ℤ◌, +ℤ_comm}
use Rattle.std.specs.Prelude.{if◌then◌else◌}
use Rattle.basics.proofs.Test.{Member}
use Rattle.basics.proofs.Integer.{nat, ◌⊕◌, ◌⊖◌, ◌⊗◌, ring}
use Rattle.lattice.specs.declared.Sizes.{Sizes}
use Rattle.lattice.specs.Axis.{Axis}
use Rattle.lattice.specs.Point.{doubled}
use Rattle.lattice.specs.Direction.{Step, direction, is_start}
use Rattle.lattice.specs.Edge.{byte_at}
use Rattle.moving.specs.declared.Label.{Label}
use Rattle.moving.specs.declared.Label.TheVariants.{Minus, Zero, Plus}
use Rattle.moving.specs.Label.{is_zero, opposed}
use Rattle.moving.proofs.Labels.{opposed_sym}
use Rattle.stencil.specs.Tetrahedron.{Tetrahedron, Vertex, kind, corner, corner_number}
use Rattle.stencil.specs.Stencil.{between, rank}
use Rattle.stencil.specs.Id.{cut_id, id_of}
use Rattle.stencil.proofs.Edges.{code_in, start, finish, way, way_lt, edge_leads, opposed_along}
use Rattle.stencil.proofs.Valid.{Valid, corner_inside}
use Rattle.geometry.specs.Place.{Place, lattice_place, signed}
use Rattle.volumes.proofs.Sound.{Sound}

-- m 256ths of A and n of B make E
pub record Mix (A B E : Place) : Type 0 where
  pub m : ℕ
  pub n : ℕ
  pub m_some : 0 < m
  pub n_some : 0 < n
  pub whole : m + n ≡ 256
  pub is : (a : Axis) → pos 256 *ℤ E a ≡ pos m *ℤ A a +ℤ pos n *ℤ B a

pub flip : {A B E : Place} → Mix A B E → Mix B A E
flip {A} {B} x =
    record {
      m = x.n;
      n = x.m;
      m_some = x.n_some;
      n_some = x.m_some;
      whole = omega (arith, x.whole);
      is = λ a. x.is a ∙ +ℤ_comm (pos x.m *ℤ A a) (pos x.n *ℤ B a);
    }

-- the place E of an entry that brings in the corner y: y's own place, or a mix of it and that of a corner that came
-- before
pub data Brings (P : Vertex → Place) (before : List Vertex) (y : Vertex) (E : Place) : Type 0 where
  itself : E ≡ P y → Brings P before y E
  mixed : (o : Vertex) → Member o before → Mix (P o) (P y) E → Brings P before y E

-- opposite labels are not zero
opposed_solid : (l m : Label) → T (opposed l m) → T (not (is_zero l))
unfolding opposed is_zero
opposed_solid Minus m t = tt
opposed_solid Zero m t = t
opposed_solid Plus m t = tt

-- t 256ths of the way from X by a step to Y
part : (X Y s t : ℕ) (d : Step) → s + t ≡ 256 → Y + d.down ≡ X + d.up
    → pos 256 *ℤ (pos (256 * X) +ℤ pos t *ℤ signed d) ≡ pos s *ℤ pos (256 * X) +ℤ pos t *ℤ pos (256 * Y)
part X Y s t d h e =
    ring (nat 256 ⊗ (nat (256 * X) ⊕ nat t ⊗ (nat d.up ⊖ nat d.down)))
    (nat s ⊗ nat (256 * X) ⊕ nat t ⊗ nat (256 * Y))
    (omega (arith, ap (λ (z : ℕ). t * z) e, ap (λ (z : ℕ). z * X) h))

module _ {s : Sizes} {label : ℕ → Label} {byte : ℕ → ℕ} {place : ℕ → Place}
    (Q : Sound s label byte place) (t : Tetrahedron) (h : Valid s t) where
  abbrev at : Vertex → Place
  at v = place (corner_number s t v)

  abbrev labels : Vertex → Label
  labels v = label (corner_number s t v)

  -- the cut of the edge that leads from u in direction d to v
  cut_mix : (u v : Vertex) (d : ℕ) → d < 7
      → ((a : Axis)
      → doubled (kind v) (corner t v a) + (direction d a).down ≡ doubled (kind u) (corner t u a) + (direction d a).up)
      → T (opposed (labels u) (labels v)) → Mix (at u) (at v) (place (cut_id s (corner_number s t u) d))
  unfolding corner_number lattice_place
  cut_mix u v d small e o =
      record {
        m = 256 - b;
        n = b;
        m_some = omega (arith, in_range.1);
        n_some = in_range.0;
        whole = omega (arith, in_range.1);
        is =
            λ a. ap (λ (z : ℤ). pos 256 *ℤ z) (Q.cut_places (kind u) (corner t u) d (corner_inside s t h u) small a)
            ∙ part (doubled (kind u) (corner t u a)) (doubled (kind v) (corner t v a)) (256 - b) b (direction d a)
            (omega (arith, in_range.1)) (e a)
            ∙ (λ i. pos (256 - b) *ℤ sym (rests u (opposed_solid _ _ o) a) i
            +ℤ pos b *ℤ sym (rests v (opposed_solid _ _ (opposed_sym _ _ o)) a) i);
      }
    where
      b : ℕ
      b = byte (byte_at (corner_number s t u) d)

      in_range : (0 < b) × (b < 256)
      in_range =
          Q.bytes (kind u) (kind v) (corner t u) (corner t v) d
          (corner_inside s t h u) (corner_inside s t h v) small e o

      rests : (v : Vertex) → T (not (is_zero (labels v)))
          → (a : Axis) → at v a ≡ pos (256 * doubled (kind v) (corner t v a))
      rests v = Q.still (kind v) (corner t v) (corner_inside s t h v)

  -- the cut between u and v, from whichever of them its edge starts
  pub cut_place_law : (u v : Vertex) → rank u < rank v → T (opposed (labels u) (labels v))
      → Mix (at u) (at v) (place (id_of s t (between u v)))
  unfolding id_of
  cut_place_law u v low o =
      go (is_start (code_in t u v))
      (cut_mix (start t u v) (finish t u v) (way t u v) (way_lt t u v low) (edge_leads t u v low)
      (opposed_along labels t u v o))
    where
      go : (b : Bool) {E : Place} → Mix (at (if b then u else v)) (at (if b then v else u)) E → Mix (at u) (at v) E
      go true m = m
      go false m = flip m
