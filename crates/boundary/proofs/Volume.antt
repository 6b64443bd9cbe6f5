-- The triple product of a face's three corners. Assumes nothing.
--     row_volume_law            over the four faces of a row it adds up to the row's six-volume
--     volume_alternating    it changes sign with the winding
use Prim.Native.Nat.{ℕ}
use native.Mathlib.Omega.{arith}
use mathlib.Core.Path.{◌≡◌, sym, ◌∙◌, ap}
use lib.IntN.{ℤ, pos, ◌+ℤ◌, ◌-ℤ◌, ◌*ℤ◌, neg_ℤ}
use Rattle.basics.proofs.Integer.{nat, int, ◌⊕◌, ◌⊖◌, ◌⊗◌, minus, ring}
use Rattle.lattice.specs.Axis.{Axis}
use Rattle.stencil.specs.Row.{Row, row, Face, face, Third, t0, t1, t2, cycled, exchanged}
use Rattle.geometry.specs.Place.{Place}
use Rattle.geometry.specs.Volume.{difference, triple, six_volume}
use Rattle.geometry.proofs.Determinant.{turn, swap, Linear, linear_first, linear_second, linear_third}
use Rattle.geometry.proofs.Determinant.{twice_last, twice_first, twice_outer}
use Rattle.filling.specs.Mesh.{row_volume}
use Rattle.boundary.specs.Sum.{sum}
use Rattle.boundary.specs.Boundary.{face_volume}
use Rattle.boundary.proofs.Cancel.{Alternating, of_row}

-- the first two exchanged, and the outer two
swap_first : (u v w : Place) → triple v u w ≡ neg_ℤ (triple u v w)
swap_first u v w = swap v w u ∙ ap neg_ℤ (sym (turn u v w))

swap_outer : (u v w : Place) → triple w v u ≡ neg_ℤ (triple u v w)
swap_outer u v w = swap w u v ∙ ap neg_ℤ (turn w u v)

-- what is linear takes a difference to a difference
split : (g : Place → ℤ) → Linear g → (p q : Place) → g (difference p q) ≡ g q -ℤ g p
split g linear p q =
    ring (int d) (nat 1 ⊗ int d ⊕ nat 1 ⊗ int (g p) ⊖ int (g p)) (omega arith)
    ∙ ap (λ (z : ℤ). z -ℤ g p) (sym (linear q (difference p q) p 1 1 1 whole))
    ∙ ring (nat 1 ⊗ int (g q) ⊖ int (g p)) (int (g q) ⊖ int (g p)) (omega arith)
  where
    d : ℤ
    d = g (difference p q)

    whole : (a : Axis) → pos 1 *ℤ q a ≡ pos 1 *ℤ (q a -ℤ p a) +ℤ pos 1 *ℤ p a
    whole a = ring (nat 1 ⊗ int (q a)) (nat 1 ⊗ (int (q a) ⊖ int (p a)) ⊕ nat 1 ⊗ int (p a)) (omega arith)

-- the six-volume, seen from the origin: of the eight triple products that it splits into, those with a twice vanish
module _ (a b c d : Place) where
  spread : (u : Place) → triple u (difference a c) (difference a d) ≡ triple u c d -ℤ triple u c a -ℤ triple u a d
  spread u =
      let ucd = int (triple u c d) in
      let uca = int (triple u c a) in
      let uad = int (triple u a d) in
      split (λ v. triple u v (difference a d)) (linear_second u (difference a d)) a c
      ∙ (λ i. split (triple u c) (linear_third u c) a d i -ℤ split (triple u a) (linear_third u a) a d i)
      ∙ (λ i. triple u c d -ℤ triple u c a -ℤ (triple u a d -ℤ twice_last u a i))
      ∙ ring (ucd ⊖ uca ⊖ (uad ⊖ nat 0)) (ucd ⊖ uca ⊖ uad) (omega arith)

  six : six_volume a b c d
      ≡ triple b c d -ℤ triple b c a -ℤ triple b a d -ℤ (triple a c d -ℤ triple a c a -ℤ triple a a d)
  unfolding six_volume
  six =
      split (λ u. triple u (difference a c) (difference a d)) (linear_first (difference a c) (difference a d)) a b
      ∙ (λ i. spread b i -ℤ spread a i)

  four : triple b c d +ℤ (triple a d c +ℤ (triple a b d +ℤ (triple a c b +ℤ pos 0))) ≡ six_volume a b c d
  four =
      let bcd = int (triple b c d) in
      let acd = int (triple a c d) in
      let bad = int (triple b a d) in
      let bca = int (triple b c a) in
      (λ i. triple b c d +ℤ (swap a c d i +ℤ (swap_first b a d i +ℤ (swap_outer b c a i +ℤ pos 0))))
      ∙ ring (bcd ⊕ (minus acd ⊕ (minus bad ⊕ (minus bca ⊕ nat 0)))) (bcd ⊖ bca ⊖ bad ⊖ (acd ⊖ nat 0 ⊖ nat 0))
      (omega arith)
      ∙ sym (six ∙ (λ i. triple b c d -ℤ triple b c a -ℤ triple b a d
      -ℤ (triple a c d -ℤ twice_outer a c i -ℤ twice_first a d i)))

pub row_volume_law : (place : ℕ → Place) (r : Row ℕ) → of_row (face_volume place) r ≡ row_volume place r
unfolding sum row_volume face_volume
row_volume_law place (row a b c d) = four (place a) (place b) (place c) (place d)

pub volume_alternating : (place : ℕ → Place) → Alternating (face_volume place)
unfolding face_volume
volume_alternating place g h o = ap (face_volume place) o.1 ∙ either g o.0
  where
    either : (g : Face ℕ) (r : Third) → face_volume place (exchanged (cycled r g)) ≡ neg_ℤ (face_volume place g)
    either (face x y z) t0 = swap (place x) (place y) (place z)
    either (face x y z) t1 = swap_first (place x) (place y) (place z)
    either (face x y z) t2 = swap_outer (place x) (place y) (place z)
