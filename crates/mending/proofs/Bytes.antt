-- What becomes of a byte, by its fault. Assumes nothing.
--     missing_so, stray_so, cut_so, blank_so   the four cases, by what the byte is and whether its edge crosses
--     by_case                                  one of them is at hand
--     crosses_far                              an edge that crosses leads somewhere
--     byte_fine                                a mended byte is not at fault
--     fine_stays                               a byte that is not at fault stays
--     missing_of                               a missing byte is 0, and its edge crosses
use Prim.Native.Nat.{ℕ, ◌/◌, ◌%◌}
use native.Mathlib.Omega.{arith}
use mathlib.Core.Path.{◌≡◌, refl, sym, ap, subst, ◌∙◌}
use mathlib.Core.Bool.{Bool, true, false}
use mathlib.Core.List.{List}
use lib.Dec.{T, eqb}
use lib.ListN.{get_or}
use borrow.Author.Tests.{eq-eqb, ne_eqb, eqb-true, eqb-false}
use Rattle.std.proofs.Common.{None, Option, Some}
use Rattle.lattice.specs.Direction.{as_start}
use Rattle.lattice.specs.Edge.{neighbour}
use Rattle.moving.specs.declared.Label.{Label}
use Rattle.moving.specs.Label.{opposed}
use Rattle.moving.specs.Block.{Block}
use Rattle.filling.specs.Check.{crosses, crosses_to, cut_fault}
use Rattle.mending.specs.Mend.{rounded, size_at, byte_to, fault_at, mended_byte}
use Rattle.mending.proofs.Step.{held_byte}

module _ (label : ℕ → Label) (b : Block) (o : ℕ) where
  abbrev start : ℕ
  start = o / 7

  abbrev far : Option ℕ
  far = neighbour b.sizes start (as_start (o % 7))

  abbrev must : Bool
  must = crosses b.sizes label start (o % 7)

  abbrev byte : ℕ
  byte = get_or b.cuts o 0

  -- the byte that a missing one becomes
  abbrev guess : ℕ
  guess = byte_to b.samples start far

  pub missing_so : must ≡ true → byte ≡ 0 → (fault_at label b o ≡ 6) × (mended_byte label b o ≡ guess)
  unfolding cut_fault mended_byte
  missing_so c z = rw (c, eq-eqb _ _ z) (refl, refl)

  pub stray_so : must ≡ false → (byte ≡ 0 → ⊥) → (fault_at label b o ≡ 7) × (mended_byte label b o ≡ 0)
  unfolding cut_fault mended_byte
  stray_so c n = rw (c, ne_eqb _ _ n) (refl, refl)

  pub cut_so : must ≡ true → (byte ≡ 0 → ⊥) → (fault_at label b o ≡ 0) × (mended_byte label b o ≡ byte)
  unfolding cut_fault mended_byte
  cut_so c n = rw (c, ne_eqb _ _ n) (refl, refl)

  pub blank_so : must ≡ false → byte ≡ 0 → (fault_at label b o ≡ 0) × (mended_byte label b o ≡ byte)
  unfolding cut_fault mended_byte
  blank_so c z = rw (c, eq-eqb _ _ z) (refl, refl)

  -- the four cases
  module _ {A : Type 0} (missing : must ≡ true → byte ≡ 0 → A) (cut : must ≡ true → (byte ≡ 0 → ⊥) → A)
      (blank : must ≡ false → byte ≡ 0 → A) (stray : must ≡ false → (byte ≡ 0 → ⊥) → A) where
    pub by_case : A
    by_case = go must (eqb byte 0) refl refl
      where
        go : (c z : Bool) → must ≡ c → eqb byte 0 ≡ z → A
        go true true c z = missing c (eqb-true _ _ z)
        go true false c z = cut c (eqb-false _ _ z)
        go false true c z = blank c (eqb-true _ _ z)
        go false false c z = stray c (eqb-false _ _ z)

  -- an edge that crosses leads somewhere
  pub crosses_far : must ≡ true → (q : ℕ) × (far ≡ Some q) × (opposed (label start) (label q) ≡ true)
  unfolding crosses_to
  crosses_far c = go far refl c
    where
      go : (n : Option ℕ) → far ≡ n → crosses_to b.sizes label start n ≡ true → (q : ℕ) × (far ≡ Some q) × (opposed (label start) (label q) ≡ true)
      go None e c = absurd (subst T (sym c) tt)
      go (Some q) e c = (q, e, c)

  -- so what its byte becomes is not 0
  guess_some : must ≡ true → guess ≡ 0 → ⊥
  unfolding byte_to
  guess_some c z =
      let (q, e, w) = crosses_far c in
      let k = ap (byte_to b.samples start) e in
      omega (arith, sym k ∙ z, held_byte (rounded (size_at b.samples start) (size_at b.samples q)))

  -- a table that holds the mended byte is not at fault there
  pub byte_fine : (new : List ℕ) → get_or new o 0 ≡ mended_byte label b o → cut_fault b.sizes label new o ≡ 0
  unfolding cut_fault
  byte_fine new e =
      by_case (λ c z. has_cut c (λ n. guess_some c (sym (missing_so c z).1 ∙ sym e ∙ n)))
      (λ c n. has_cut c (λ z. n (sym (cut_so c n).1 ∙ sym e ∙ z)))
      (λ c z. has_none c (e ∙ (blank_so c z).1 ∙ z))
      (λ c n. has_none c (e ∙ (stray_so c n).1))
    where
      has_cut : must ≡ true → (get_or new o 0 ≡ 0 → ⊥) → cut_fault b.sizes label new o ≡ 0
      has_cut c n = rw (c, ne_eqb _ _ n) refl

      has_none : must ≡ false → get_or new o 0 ≡ 0 → cut_fault b.sizes label new o ≡ 0
      has_none c z = rw (c, eq-eqb _ _ z) refl

  pub fine_stays : fault_at label b o ≡ 0 → mended_byte label b o ≡ byte
  unfolding mended_byte
  fine_stays e = rw e refl

  -- a byte that filling refuses with 6 is 0, and its edge crosses
  pub missing_of : fault_at label b o ≡ 6 → (must ≡ true) × (byte ≡ 0)
  missing_of e =
      by_case (λ c z. (c, z)) (λ c n. absurd (omega (arith, sym e ∙ (cut_so c n).0)))
      (λ c z. absurd (omega (arith, sym e ∙ (blank_so c z).0))) (λ c n. absurd (omega (arith, sym e ∙ (stray_so c n).0)))
