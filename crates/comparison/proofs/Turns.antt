-- What one turn of a loop over a table does to what is left of it. Assumes nothing.
use Prim.Native.Nat.{ℕ, suc, ◌+◌, ◌*◌, ◌-◌, ◌<◌, ◌≤◌}
use native.Mathlib.Omega.{arith}
use mathlib.Core.Path.{◌≡◌, refl, sym, ◌∙◌}
use mathlib.Core.Bool.{true, false}
use mathlib.Core.List.{List, ◌∷◌}
use lib.ListN.{length, get_or, drop, drop_of_length-le}
use borrow.Author.Tests.{eq-eqb, ne_eqb}
use Rattle.blockfile.specs.Format.{two_at}
use Rattle.blockfile.proofs.Left.{part_left}
use Rattle.comparison.specs.program.Same.{same, ids_from}

-- a table from its entry i on, and the ids of those entries
module _ (xs bytes : List ℕ) (at : ℕ) where
  abbrev pub ids_after : ℕ → List ℕ
  ids_after i = ids_from bytes (at + 2 * i) (length xs - i)

  ids_left : (i : ℕ) → i < length xs → ids_after i ≡ two_at bytes (at + 2 * i) ∷ ids_after (i + 1)
  unfolding ids_from
  ids_left i h =
      let s : length xs - i ≡ suc (length xs - (i + 1)) = omega arith in
      let p : at + 2 * (i + 1) ≡ at + 2 * i + 2 = omega arith in
      rw (s, p)

  pub ids_next : (i : ℕ) {id : ℕ} → i < length xs → id ≡ two_at bytes (at + 2 * i) → get_or xs i 0 ≡ id
      → same (drop (i + 1) xs) (ids_after (i + 1)) ≡ same (drop i xs) (ids_after i)
  ids_next i h q e = rw (part_left xs i h, ids_left i h) (simp (eq-eqb (get_or xs i 0) (two_at bytes (at + 2 * i)) (e ∙ q)))

  pub ids_differ : (i : ℕ) {id : ℕ} → i < length xs → id ≡ two_at bytes (at + 2 * i) → (get_or xs i 0 ≡ id → ⊥)
      → false ≡ same (drop i xs) (ids_after i)
  ids_differ i h q ne =
      rw (part_left xs i h, ids_left i h) (simp (ne_eqb (get_or xs i 0) (two_at bytes (at + 2 * i)) (λ e. ne (e ∙ sym q))))

  pub ids_end : (i : ℕ) → length xs ≤ i → true ≡ same (drop i xs) (ids_after i)
  unfolding ids_from
  ids_end i h =
      let s : length xs - i ≡ 0 = omega arith in
      rw (drop_of_length-le xs h, s) refl
