-- Samples compared by their bits, and a table of them from an entry on. Assumes nothing.
use Prim.Native.Nat.{ℕ, suc, ◌+◌, ◌*◌, ◌-◌, ◌<◌, ◌≤◌}
use native.Mathlib.Omega.{arith}
use native.Mathlib.Numerals.{add-one}
use mathlib.Core.Path.{◌≡◌, refl, ap₂, ◌∙◌}
use mathlib.Core.Bool.{Bool, true, false}
use mathlib.Core.List.{List, ◌∷◌}
use lib.IntN.{ℤ, pos, negsuc}
use lib.ListN.{length, get_or, drop, drop_of_length-le}
use lib.Seq.{drop-cons}
use lib.Dec.{eqb}
use borrow.Author.Tests.{eq-eqb, ne_eqb, eqb-true, eqb-false}
use mir.Syntax.{w16}
use mir.Val.{of_z, SFits}
use Rattle.blockfile.specs.Format.{two_at, signed, samples_from}
use Rattle.comparison.specs.program.Same.{same_sample, same_samples}

same_tests : (x y m n : ℕ) → (x ≡ y → m ≡ n) → (m ≡ n → x ≡ y) → eqb x y ≡ eqb m n
same_tests x y m n f g = go (eqb m n) refl
  where
    go : (b : Bool) → eqb m n ≡ b → eqb x y ≡ b
    go true e = eq-eqb x y (g (eqb-true m n e))
    go false e = ne_eqb x y (λ d. eqb-false m n e (f d))

pub bits_test : (a b : ℤ) → SFits w16 a → SFits w16 b → eqb (of_z w16 a) (of_z w16 b) ≡ same_sample a b
unfolding same_sample
bits_test (pos m) (pos n) f g = refl
bits_test (pos m) (negsuc n) f g =
    let p : m < 32768 = f.sfits in
    let q : n < 32768 = g.sfits in
    ne_eqb m (65536 - suc n) (λ (e : m ≡ 65536 - suc n). omega arith)
bits_test (negsuc m) (pos n) f g =
    let p : m < 32768 = f.sfits in
    let q : n < 32768 = g.sfits in
    ne_eqb (65536 - suc m) n (λ (e : 65536 - suc m ≡ n). omega arith)
bits_test (negsuc m) (negsuc n) f g =
    let p : m < 32768 = f.sfits in
    let q : n < 32768 = g.sfits in
    same_tests (65536 - suc m) (65536 - suc n) m n (λ (e : 65536 - suc m ≡ 65536 - suc n). omega arith) (λ (e : m ≡ n). omega arith)

-- a table from its entry i on, and the samples of those entries
module _ (xs : List ℤ) (bytes : List ℕ) (at : ℕ) where
  abbrev pub samples_after : ℕ → List ℤ
  samples_after i = samples_from bytes (at + 2 * i) (length xs - i)

  entry_left : (i : ℕ) → i < length xs → drop i xs ≡ get_or xs i (pos 0) ∷ drop (i + 1) xs
  entry_left i h = rw (add-one i) (drop-cons xs i (pos 0) h)

  stated_left : (i : ℕ) → i < length xs → samples_after i ≡ signed (two_at bytes (at + 2 * i)) ∷ samples_after (i + 1)
  unfolding samples_from
  stated_left i h =
      let s : length xs - i ≡ suc (length xs - (i + 1)) = omega arith in
      let p : at + 2 * (i + 1) ≡ at + 2 * i + 2 = omega arith in
      rw (s, p)

  module _ (i : ℕ) (h : i < length xs) {x y : ℤ} {f : Bool} (r : f ≡ same_sample x y) (p : x ≡ get_or xs i (pos 0))
      (q : y ≡ signed (two_at bytes (at + 2 * i)))
    where
      is_same : f ≡ same_sample (get_or xs i (pos 0)) (signed (two_at bytes (at + 2 * i)))
      is_same = r ∙ ap₂ same_sample p q

      pub samples_next : f ≡ true → same_samples (drop (i + 1) xs) (samples_after (i + 1)) ≡ same_samples (drop i xs) (samples_after i)
      unfolding same_samples
      samples_next e = rw (entry_left i h, stated_left i h, ← is_same, e) refl

      pub samples_differ : f ≡ false → false ≡ same_samples (drop i xs) (samples_after i)
      unfolding same_samples
      samples_differ e = rw (entry_left i h, stated_left i h, ← is_same, e) refl

  pub samples_end : (i : ℕ) → length xs ≤ i → true ≡ same_samples (drop i xs) (samples_after i)
  unfolding same_samples samples_from
  samples_end i h =
      let s : length xs - i ≡ 0 = omega arith in
      rw (drop_of_length-le xs h, s) refl
