-- The calls agree: with the state table that filling leaves, the place call believes every point, and answers every point and every cut
-- between ends with state byte 0 with the very place that the rows are measured by. Whatever moves reached the state table. Assumes nothing.
use Prim.Native.Nat.{ℕ, ◌*◌, ◌-◌, ◌/◌, ◌%◌, ◌<◌}
use native.Mathlib.Omega.{arith}
use mathlib.Core.Path.{◌≡◌, refl}
use mathlib.Core.Bool.{true}
use mathlib.Core.List.{List}
use lib.ListN.{length, get_or}
use borrow.Author.Tests.{eq-eqb, ne_eqb, lt-leb, lt-ltb, le-ltb}
use Rattle.std.proofs.Common.{Some}
use Rattle.basics.proofs.Test.{T_true}
use Rattle.lattice.specs.Counts.{Sized, points}
use Rattle.lattice.specs.Direction.{as_start}
use Rattle.lattice.specs.Edge.{neighbour, byte_at}
use Rattle.lattice.proofs.Sized.{sized_fits}
use Rattle.moving.specs.Violation.{rule1}
use Rattle.moving.specs.Reading.{Reading}
use Rattle.moving.specs.Moving.{outset}
use Rattle.moving.proofs.Settled.{Reached}
use Rattle.moving.proofs.Bytes.{code_move, zero_none, mark_none, code_some}
use Rattle.moving.proofs.Moved.{Says, still, marked, moved, reached_byte}
use Rattle.stencil.specs.Id.{cut_id}
use Rattle.geometry.specs.Place.{place_of}
use Rattle.filling.specs.declared.Placed.{Placed}
use Rattle.filling.specs.Located.{reaches, believable, stands_to, stands, placed, id_fault, locate}

-- what the place call answers, and where the rows' corner with an id stands
abbrev pub answer_to : Reading → List ℕ → ℕ → Placed
answer_to m codes = locate m.sizes m.cuts codes

abbrev pub stands_at : Reading → List ℕ → ℕ → Placed
stands_at m codes id = placed (place_of m.sizes m.cuts codes id)

-- sizes that are taken, and a cut table of the right length; the place call goes by document 01's rule
pub record Asked (m : Reading) : Type 0 where
  pub sized : Sized m.sizes
  pub cuts_long : length m.cuts ≡ 7 * points m.sizes
  pub rule_is : m.rule ≡ rule1

module _ (m : Reading) (asked : Asked m) (codes : List ℕ) (reached : Reached m (outset m) codes) where
  -- no point is refused with 9
  pub believed : (p : ℕ) → p < points m.sizes → believable m.sizes m.cuts codes p ≡ true
  unfolding believable reaches
  believed p l = go (reached_byte m reached p l)
    where
      code : ℕ
      code = get_or codes p 0

      go : Says m reached p → believable m.sizes m.cuts codes p ≡ true
      go (still e _) = rw (zero_none code e) refl
      go (marked e _) = rw (mark_none code e) refl
      go (moved v) =
          let edge = v.1.edge in
          let near = rw asked.rule_is at v.1.near in
          rw (code_some code edge.code, code_move code edge.code, edge.leads) (T_true _ near)

  -- an id without a fault is answered with its place
  faultless : (id : ℕ) → id_fault m.sizes m.cuts codes id ≡ 0 → answer_to m codes id ≡ stands_at m codes id
  unfolding locate
  faultless id e =
      rw (
        sized_fits m.sizes asked.sized,
        eq-eqb _ _ asked.cuts_long,
        eq-eqb _ _ reached.long,
        eq-eqb _ _ e,
      )
      refl

  pub point_agrees : (p : ℕ) → p < points m.sizes → answer_to m codes p ≡ stands_at m codes p
  unfolding id_fault
  point_agrees p l = faultless p (rw (lt-ltb _ _ l, believed p l) refl)

  -- the cut of an edge that exists, has a byte, and has two ends with state byte 0
  pub cut_agrees : (p d q : ℕ) → p < points m.sizes → d < 7 → neighbour m.sizes p (as_start d) ≡ Some q
      → (get_or m.cuts (byte_at p d) 0 ≡ 0 → ⊥) → get_or codes p 0 ≡ 0 → get_or codes q 0 ≡ 0
      → answer_to m codes (cut_id m.sizes p d) ≡ stands_at m codes (cut_id m.sizes p d)
  unfolding id_fault stands stands_to
  cut_agrees p d q l u e n x y =
      faultless id
      (rw (
        le-ltb id (points m.sizes) (omega arith),
        lt-leb (8 * points m.sizes) id (omega arith),
        start,
        way,
        e,
        ne_eqb _ _ n,
        eq-eqb _ _ x,
        eq-eqb _ _ y,
      )
      refl)
    where
      id : ℕ
      id = cut_id m.sizes p d

      start : (id - points m.sizes) / 7 ≡ p
      start = omega arith

      way : (id - points m.sizes) % 7 ≡ d
      way = omega arith
