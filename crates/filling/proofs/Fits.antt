-- What acceptance says of what moving reads: all that the rows and their agreement with the place call ask of a block. Assumes nothing.
use Prim.Native.Nat.{ℕ, ◌/◌, ◌%◌, ◌<◌}
use native.Mathlib.Omega.{arith}
use mathlib.Core.Path.{◌≡◌, refl}
use mathlib.Core.Logic.{inl, inr}
use lib.ListN.{get_or}
use lib.Dec.{T}
use borrow.Author.Tests.{eq-eqb}
use Rattle.std.proofs.Common.{Some}
use Rattle.basics.proofs.Test.{&&-i, T_true, false_F, lt_or}
use Rattle.lattice.specs.Counts.{points}
use Rattle.lattice.specs.Direction.{as_start}
use Rattle.lattice.specs.Edge.{neighbour, byte_at}
use Rattle.lattice.specs.Rim.{rim}
use Rattle.moving.specs.declared.Label.{Label}
use Rattle.moving.specs.Label.{labels, is_plus, opposed}
use Rattle.moving.specs.Reading.{Reading}
use Rattle.moving.specs.Block.{Block, reading_of}
use Rattle.filling.specs.Check.{rim_fault, crosses_to, cut_fault, Accepted}

-- no rim point is plus; an edge between a plus and a minus point has a byte
pub record Fits (m : Reading) : Type 0 where
  pub no_plus : (p : ℕ) → p < points m.sizes → T (rim m.sizes p) → T (is_plus (m.label p)) → ⊥
  pub cut : (p d q : ℕ) → p < points m.sizes → d < 7 → neighbour m.sizes p (as_start d) ≡ Some q
      → T (opposed (m.label p) (m.label q)) → 0 < get_or m.cuts (byte_at p d) 0

-- the tests of the rim and of the cut bytes read the labels that moving reads
pub accepted_fits : (band : ℕ) (b : Block) → Accepted band b → Fits (reading_of band b)
unfolding rim_fault cut_fault crosses_to
accepted_fits band b h =
    record {
      no_plus = λ p l t u. false_F (rim_fault b.sizes label p) (h.rim_fine p l) (&&-i (rim b.sizes p) (is_plus (label p)) t u);
      cut = some_byte;
    }
  where
    label : ℕ → Label
    label = labels band b.samples

    some_byte : (p d q : ℕ) → p < points b.sizes → d < 7 → neighbour b.sizes p (as_start d) ≡ Some q
        → T (opposed (label p) (label q)) → 0 < get_or b.cuts (byte_at p d) 0
    some_byte p d q l u to t =
        elim (lt_or 0 (get_or b.cuts (byte_at p d) 0)) [
          | inl m ↦ m
          | inr m ↦ absurd (omega (arith, gap (omega arith), h.cuts_fine (byte_at p d) (omega arith)))
        ]
      where
        start : byte_at p d / 7 ≡ p
        start = omega arith

        way : byte_at p d % 7 ≡ d
        way = omega arith

        gap : get_or b.cuts (byte_at p d) 0 ≡ 0 → cut_fault b.sizes label b.cuts (byte_at p d) ≡ 6
        gap z = rw (start, way, to, T_true (opposed (label p) (label q)) t, eq-eqb _ _ z) refl
