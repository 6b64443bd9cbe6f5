-- Measures and filling of a block that was read, from what the code holds: N, and how much of the state table is lent. Assumes nothing.
use Prim.Native.Nat.{ℕ, ◌*◌, ◌≤◌, min}
use native.Mathlib.Omega.{arith}
use mathlib.Core.Path.{◌≡◌, refl, sym, ap, ◌∙◌}
use mathlib.Core.Logic.{inl, inr}
use mathlib.Core.List.{List, ◌++◌}
use lib.IntN.{ℤ}
use lib.ListN.{length, take, drop, drop_of_length-le}
use lib.Seq.{take_all}
use borrow.Author.Tests.{eq-eqb, ne_eqb}
use Rattle.basics.proofs.Test.{lt_or}
use Rattle.lattice.specs.declared.Sizes.{Sizes}
use Rattle.lattice.specs.Counts.{Sized, points}
use Rattle.lattice.proofs.Sized.{sized_fits}
use Rattle.moving.specs.Block.{block_of}
use Rattle.filling.specs.declared.Filled.{Filled}
use Rattle.stuffing.specs.inner.Fills.{Fills}
use Rattle.yakuemi.specs.declared.measures.Measures.{Measures}
use Rattle.yakuemi.specs.Measures.{measure}
use Rattle.fill_file.specs.program.Summary.{Summary, refusal, counted, Outcome, fill_read}

-- N, as measured
pub measured_points : (s : Sizes) {m : Measures} → Sized s → m ≡ measure s → m.points ≡ points s
unfolding measure
measured_points s w e = ap (λ (m : Measures). m.points) e ∙ simp (sized_fits s w)

-- what is summed up of an answer of filling
module _ (s : Sizes) (f : Filled) where
  pub counted_refused : {a : Summary} → (f.number ≡ 0 → ⊥) → a ≡ refusal f.number f.place → a ≡ counted s f
  unfolding counted
  counted_refused n e = rw (ne_eqb f.number 0 n) e

  pub counted_filled : {m : Measures} → f.number ≡ 0 → m ≡ measure s
      → record { number = 0; place = 0; points = m.points; lattice = m.tetrahedra; moved = f.moved; emitted = f.rows } ≡ counted s f
  unfolding counted
  counted_filled e p = rw (eq-eqb f.number 0 e, p) refl

-- the first n entries of a table, or all that there are
module _ (l : List ℕ) (n : ℕ) {k : ℕ} (q : k ≡ min n (length l)) where
  lent : take k l ≡ take n l
  lent =
      elim (lt_or n (length l))
      [ inl h ↦ let e : k ≡ n = omega arith in rw e refl | inr h ↦ take_all k l (omega arith) ∙ sym (take_all n l h) ]

  kept : drop k l ≡ drop n l
  kept =
      elim (lt_or n (length l)) [
        | inl h ↦ let e : k ≡ n = omega arith in rw e refl
        | inr h ↦ let g : length l ≤ k = omega arith in drop_of_length-le l g ∙ sym (drop_of_length-le l h)
      ]

-- the answer and both tables of an outcome
abbrev pub Is : Outcome → Summary → List ℕ → List ℕ → Type 0
Is o a state rows = (a ≡ o.answer) × ((state ≡ o.state) × (rows ≡ o.rows))

module _ (s : Sizes) (samples : List ℤ) (cuts state rows : List ℕ) {n k : ℕ} (p : n ≡ points s) (q : k ≡ min n (length state)) where
  pub filled_is : {f : Filled} {after rowsAfter : List ℕ} {a : Summary}
      → Fills 0 (block_of s (take n samples) (take (7 * n) cuts)) (take k state) rows f after rowsAfter → a ≡ counted s f
      → Is (fill_read s samples cuts state rows) a (after ++ drop k state) rowsAfter
  unfolding fill_read
  filled_is {f} {after} {rowsAfter} w e = (e ∙ ap (counted s) v.answer, (rw (kept state n q, p, ← v.state_is) refl, v.rows_are))
    where
      v : Fills 0 (block_of s (take (points s) samples) (take (7 * points s) cuts)) (take (points s) state) rows f after rowsAfter
      v = rw (← p, ← (lent state n q)) w
