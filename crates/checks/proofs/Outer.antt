-- Rim points plus in a line of points. Assumes nothing.
--     outer_fault                            all points of a line on the outside are on the rim
--     inner_first, inner_last, inner_none    of any other line the two ends are
use Prim.Native.Nat.{ℕ, ◌+◌, ◌-◌, ◌≤◌, ◌<◌}
use native.Mathlib.Omega.{arith}
use mathlib.Core.Path.{◌≡◌, refl, sym, ap, ◌∙◌}
use mathlib.Core.Bool.{Bool, true, false, ◌||◌}
use lib.Dec.{eqb}
use borrow.Author.Tests.{eq-eqb, ne_eqb}
use Rattle.lattice.specs.declared.Sizes.{Sizes}
use Rattle.lattice.specs.declared.Site.{Site}
use Rattle.lattice.specs.Axis.{along_x, along_y, along_z}
use Rattle.lattice.specs.Counts.{Sized, grid}
use Rattle.lattice.specs.Rim.{outermost, rim_at, rim}
use Rattle.moving.specs.declared.Label.{Label}
use Rattle.moving.specs.Label.{is_plus}
use Rattle.filling.specs.Check.{rim_fault}
use Rattle.lines.specs.inner.Lines.{Line}
use Rattle.lines.proofs.Points.{rim_at_law}
use Rattle.lines.proofs.Lines.{line_at_law, some}
use Rattle.checks.specs.inner.Search.{Throughout, First}
use Rattle.checks.proofs.Search.{none_yet, one_more, joined, upto, here}

or_true : (b : Bool) → (b || true) ≡ true
or_true true = refl
or_true false = refl

or_false : (b : Bool) → (b || false) ≡ b
or_false true = refl
or_false false = refl

first_outermost : (m : ℕ) → outermost m 0 ≡ true
unfolding outermost
first_outermost m = refl

last_outermost : (m i : ℕ) → i + 1 ≡ m → outermost m i ≡ true
unfolding outermost
last_outermost m i e = ap (λ (b : Bool). eqb i 0 || b) (eq-eqb (i + 1) m e) ∙ or_true (eqb i 0)

not_outermost : (m i : ℕ) → 0 < i → i + 1 < m → outermost m i ≡ false
unfolding outermost
not_outermost m i h l =
    let a : i ≡ 0 → ⊥ = λ e. omega arith in
    let b : i + 1 ≡ m → ⊥ = λ e. omega arith in
    simp (ne_eqb i 0 a, ne_eqb (i + 1) m b)

module _ (s : Sizes) (label : ℕ → Label) where
  on_rim : (p : ℕ) → rim s p ≡ true → rim_fault s label p ≡ is_plus (label p)
  unfolding rim_fault
  on_rim p e = simp e

  within : (p : ℕ) → rim s p ≡ false → rim_fault s label p ≡ false
  unfolding rim_fault
  within p e = simp e

  module _ {p : ℕ} {q : Site} (l : Line s p q) where
    abbrev long : ℕ
    long = grid s q.kind along_x

    -- the line lies on the outside
    abbrev pub outer : Bool
    outer = outermost (grid s q.kind along_y) q.y || outermost (grid s q.kind along_z) q.z

    -- the point j of the line is on the rim as the line is, or as its index along the line says
    rim_line : (j : ℕ) → p ≤ j → j < p + long → {b : Bool} → outer ≡ b → rim s j ≡ (outermost long (j - p) || b)
    unfolding rim_at
    rim_line j a h o =
        let e : p + (j - p) ≡ j = omega arith in
        ap (rim s) (sym e) ∙ sym (rim_at_law (line_at_law l (j - p) (omega arith))) ∙ ap (λ (t : Bool). outermost long (j - p) || t) o

    pub outer_fault : outer ≡ true → (j : ℕ) → p ≤ j → j < p + long → rim_fault s label j ≡ is_plus (label j)
    outer_fault o j a h = on_rim j (rim_line j a h o ∙ or_true (outermost long (j - p)))

    module _ (h : Sized s) (o : outer ≡ false) where
      rim_inner : (j : ℕ) → p ≤ j → j < p + long → rim s j ≡ outermost long (j - p)
      rim_inner j a u = rim_line j a u o ∙ or_false (outermost long (j - p))

      at_first : rim_fault s label p ≡ is_plus (label p)
      at_first =
          let e : p - p ≡ 0 = omega arith in
          on_rim p (rim_inner p (omega arith) (omega (arith, some s h q.kind)) ∙ ap (outermost long) e ∙ first_outermost long)

      pub inner_first : is_plus (label p) ≡ true → First (rim_fault s label) p (p + long) p
      inner_first t = here (omega arith) (omega (arith, some s h q.kind)) (at_first ∙ t) (none_yet (omega arith))

      -- j is the last point of the line
      module _ (j : ℕ) (e : j + 1 ≡ p + long) (f : is_plus (label p) ≡ false) where
        at_last : rim_fault s label j ≡ is_plus (label j)
        at_last =
            let w = some s h q.kind in
            on_rim j (rim_inner j (omega arith) (omega arith) ∙ last_outermost long (j - p) (omega arith))

        between : Throughout (rim_fault s label) false (p + 1) j
        between =
            record {
              is = λ k a b. within k (rim_inner k (omega arith) (omega arith) ∙ not_outermost long (k - p) (omega arith) (omega arith));
            }

        before_last : Throughout (rim_fault s label) false p j
        before_last = joined (one_more (none_yet (omega arith)) (at_first ∙ f)) between

        pub inner_last : is_plus (label j) ≡ true → First (rim_fault s label) p (p + long) j
        inner_last t = here (omega (arith, some s h q.kind)) (omega arith) (at_last ∙ t) before_last

        pub inner_none : is_plus (label j) ≡ false → Throughout (rim_fault s label) false p (p + long)
        inner_none t = upto (omega arith) (one_more before_last (at_last ∙ t))
