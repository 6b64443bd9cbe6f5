-- A corner's place, from the three numbers that the place call answers. Assumes nothing.
use Prim.Native.Nat.{ℕ, ◌≤◌}
use native.Mathlib.Omega.{arith}
use mathlib.Core.Path.{◌≡◌, refl, sym, ap, ◌∙◌}
use mathlib.Core.Logic.{inl, inr}
use mathlib.Core.List.{List}
use lib.IntN.{pos, nat_abs}
use borrow.Author.Tests.{eqb-true, not-false}
use mir.Syntax.{w64}
use mir.Val.{to_z}
use Rattle.lattice.specs.declared.Sizes.{Sizes}
use Rattle.lattice.specs.Axis.{Axis, along_x, along_y, along_z}
use Rattle.geometry.specs.Place.{place_of}
use Rattle.filling.specs.declared.Placed.{Placed}
use Rattle.filling.specs.Located.{placed, unplaced, id_fault, locate_order, locate}
use Rattle.filling.proofs.Refusing.{Each, goes}
use Rattle.filling.proofs.InBlock.{coordinate, place_in, located_small}
use Rattle.triple.specs.declared.Place.{Place}
use Rattle.triple.specs.inner.Places.{place_at, InBox, place_box}
use Rattle.triple.proofs.Box.{back, Is, held, nat_within, place_is, box_of}
use Rattle.sums.specs.inner.Measured.{Standing}

-- three numbers as the code holds them
abbrev pub held_as : Placed → Place
held_as p = record { x = to_z w64 p.x; y = to_z w64 p.y; z = to_z w64 p.z }

module _ (s : Sizes) (cuts state : List ℕ) (id : ℕ) (w : Standing s cuts state id) where
  faultless : id_fault s cuts state id ≡ 0
  unfolding locate
  faultless =
      elim (goes (λ n at. unplaced n) (λ r. r.number ≡ 0 → id_fault s cuts state id ≡ 0) (locate_order s cuts state id) harmless) [
        | inl (r, fine, is) ↦ fine (ap (λ (p : Placed). p.number) (sym (is (placed (place_of s cuts state id))) ∙ w.answered))
        | inr (a, (c, (d, (fine, end)))) ↦ eqb-true _ _ (not-false _ fine)
      ]
    where
      -- 1, 3 and 4 are no 0
      harmless : Each (λ r. r.number ≡ 0 → id_fault s cuts state id ≡ 0) (locate_order s cuts state id)
      harmless = (λ e. absurd (omega (arith, e)), (λ e. absurd (omega (arith, e)), (λ e. absurd (omega (arith, e)), (λ e. e, tt))))

  -- no coordinate is below 0
  upward : (a : Axis) → pos (nat_abs (place_of s cuts state id a)) ≡ place_of s cuts state id a
  upward a = let t = place_in s cuts state w.bytes id faultless a in rw t.is refl

  module _ {p : Placed} (e : p ≡ locate s cuts state id) where
    coordinate_is : (a : Axis) → pos (coordinate p a) ≡ place_of s cuts state id a
    coordinate_is a = ap (λ (q : Placed). pos (coordinate q a)) (e ∙ w.answered) ∙ along a
      where
        along : (a : Axis) → pos (coordinate (placed (place_of s cuts state id)) a) ≡ place_of s cuts state id a
        along along_x = upward along_x
        along along_y = upward along_y
        along along_z = upward along_z

    small : (a : Axis) → coordinate p a ≤ place_box
    small a =
        let h = located_small s cuts state w.bytes id a in
        let f : coordinate p a ≡ coordinate (locate s cuts state id) a = ap (λ (q : Placed). coordinate q a) e in
        omega (arith, h, f)

    kept : (a : Axis) → Is place_box (back (pos (coordinate p a))) (pos (coordinate p a))
    kept a = held (nat_within place_box (coordinate p a) (small a)) tt

    pub stood : place_at (held_as p) ≡ place_of s cuts state id
    stood =
        place_is (place_of s cuts state id) ((kept along_x).eq ∙ coordinate_is along_x)
        ((kept along_y).eq ∙ coordinate_is along_y) ((kept along_z).eq ∙ coordinate_is along_z)

    pub stood_near : InBox place_box (held_as p)
    stood_near = box_of (kept along_x) (kept along_y) (kept along_z)
