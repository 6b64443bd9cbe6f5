-- What is left of a list after i turns of a loop: an entry and what is left after the next turn, or nothing. Assumes nothing.
use Prim.Native.Nat.{ℕ, suc, ◌+◌, ◌*◌, ◌-◌, ◌<◌, ◌≤◌}
use native.Mathlib.Omega.{arith}
use native.Mathlib.Numerals.{add-one}
use mathlib.Core.Path.{◌≡◌, refl}
use mathlib.Core.Bool.{Bool, true, false, not, ◌&&◌, ◌||◌}
use lib.Dec.{eqb}
use Rattle.std.specs.List.{list_any}
use mathlib.Core.List.{List, [], ◌∷◌}
use lib.ListN.{length, get_or, drop, replicate}
use lib.Seq.{drop-cons}
use Rattle.blockfile.specs.declared.Run.{Run}
use Rattle.blockfile.specs.Format.{signed, no_zero, two_at, samples_from, run_at, runs_from}

-- zeros up to e
pub zeros_left : (e i : ℕ) → i < e → ◌≡◌ {A = List ℕ} (replicate (e - i) 0) (0 ∷ replicate (e - (i + 1)) 0)
zeros_left e i h = let s : e - i ≡ suc (e - (i + 1)) = omega arith in rw s

-- a part of the file
module _ (part : List ℕ) (i : ℕ) where
  pub part_left : i < length part → drop i part ≡ get_or part i 0 ∷ drop (i + 1) part
  part_left h = rw (add-one i) (drop-cons part i 0 h)

-- no zero among the bytes, as a search for one finds
pub zero_free : (bs : List ℕ) → not (list_any (λ (b : ℕ). eqb b 0) bs) ≡ no_zero bs
unfolding no_zero
zero_free [] = refl
zero_free (b ∷ bs) = go (eqb b 0) _ _ (zero_free bs)
  where
    go : (z r s : Bool) → not r ≡ s → not (z || r) ≡ (not z && s)
    go true r s e = refl
    go false r s e = e

module _ (bytes : List ℕ) where
  -- n samples
  pub samples_left : (n i : ℕ) → i < n
      → samples_from bytes (3 + 2 * i) (n - i) ≡ signed (two_at bytes (3 + 2 * i)) ∷ samples_from bytes (3 + 2 * (i + 1)) (n - (i + 1))
  unfolding samples_from
  samples_left n i h =
      let s : n - i ≡ suc (n - (i + 1)) = omega arith in
      let p : 3 + 2 * (i + 1) ≡ 3 + 2 * i + 2 = omega arith in
      rw (s, p)

  pub no_samples_left : (at n i : ℕ) → n ≤ i → samples_from bytes at (n - i) ≡ []
  unfolding samples_from
  no_samples_left at n i h = let s : n - i ≡ 0 = omega arith in rw s

  -- the runs whose headers start at `head`
  module _ (head count : ℕ) where
    abbrev pub runs_after : ℕ → List Run
    runs_after i = runs_from bytes (head + 6 * i) (count - i)

    pub runs_left : (i : ℕ) → i < count → runs_after i ≡ run_at bytes (head + 6 * i) ∷ runs_after (i + 1)
    unfolding runs_from
    runs_left i h =
        let s : count - i ≡ suc (count - (i + 1)) = omega arith in
        let p : head + 6 * (i + 1) ≡ head + 6 * i + 6 = omega arith in
        rw (s, p)

    pub no_runs_left : (i : ℕ) → count ≤ i → runs_after i ≡ []
    unfolding runs_from
    no_runs_left i h = let s : count - i ≡ 0 = omega arith in rw s
