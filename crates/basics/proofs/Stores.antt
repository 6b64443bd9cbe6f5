-- A table that is written in ascending order: `sets t i vs` is the table t with the values vs stored from entry i on. Assumes nothing.
use Prim.Native.Nat.{ℕ, suc, ◌+◌, ◌≤◌}
use native.Mathlib.Omega.{arith}
use native.Mathlib.Numerals.{add-one}
use mathlib.Core.Path.{◌≡◌, refl, ◌∙◌}
use mathlib.Core.List.{List, [], ◌∷◌, ◌++◌}
use lib.ListN.{length, drop, set}
use lib.Seq.{sets, sets-eq}

module _ {A : Type 0} where
  -- one store
  pub store_next : (t : List A) (i : ℕ) {v : A} {vs ws : List A} → vs ≡ v ∷ ws → sets t i vs ≡ sets (set t i v) (i + 1) ws
  store_next t i e = rw (e, add-one i)

  pub store_none : (t : List A) (i : ℕ) {vs : List A} → vs ≡ [] → sets t i vs ≡ t
  store_none t i e = rw e

  -- stores after stores
  pub sets_append : (t : List A) (i : ℕ) (vs ws : List A) → sets t i (vs ++ ws) ≡ sets (sets t i vs) (i + length vs) ws
  sets_append t i [] ws = let e : i + 0 ≡ i = omega arith in rw e
  sets_append t i (v ∷ vs) ws =
      let e : i + suc (length vs) ≡ suc i + length vs = omega arith in
      rw e (sets_append (set t i v) (suc i) vs ws)

  -- stores from the first entry on, where there are n and the table has n entries
  pub sets_front : (t vs : List A) {n : ℕ} → length vs ≡ n → n ≤ length t → sets t 0 vs ≡ vs ++ drop n t
  sets_front t vs {n} e h = let m : 0 + length vs ≡ n = omega arith in sets-eq vs t 0 (omega arith) ∙ rw m refl
