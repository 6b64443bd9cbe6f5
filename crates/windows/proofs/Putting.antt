-- What a window's entry becomes.
--     at_place, out_of_window         an id of the window becomes what a function says of its place; another stays
--     unrolled_same, counted_same     the table of the window's numbers, and the ranks, say what is counted
-- Assumes nothing.
use Prim.Native.Nat.{ℕ, ◌+◌, ◌-◌, ◌≤◌, ◌<◌}
use native.Mathlib.Omega.{arith}
use mathlib.Core.Path.{◌≡◌, refl, sym, ap, ◌∙◌}
use mathlib.Core.Logic.{inl, inr}
use mathlib.Core.List.{List}
use lib.ListN.{get_or}
use borrow.Author.Tests.{lt-ltb, le-ltb, le-leb, lt-leb}
use Rattle.basics.specs.Lists.{count}
use Rattle.basics.proofs.Test.{lt_or}
use Rattle.bitmap.specs.inner.Bits.{marked}
use Rattle.windows.specs.inner.Windows.{window, Outside, in_window, put_in, Unrolled}

module _ (f : ℕ → ℕ) (lo id : ℕ) where
  in_window_law : lo ≤ id → id - lo < window → in_window f lo id ≡ f (id - lo)
  unfolding in_window
  in_window_law l u = simp (le-leb _ _ l, lt-ltb _ _ u)

  -- an id by its place in the window
  pub at_place : {k : ℕ} → k < window → id ≡ lo + k → in_window f lo id ≡ f k
  at_place {k} h e = in_window_law (omega arith) (omega arith) ∙ ap f (omega arith)

  below_window : id < lo → in_window f lo id ≡ id
  unfolding in_window
  below_window l = simp (lt-leb _ _ l)

  past_window : lo ≤ id → window ≤ id - lo → in_window f lo id ≡ id
  unfolding in_window
  past_window l u = simp (le-leb _ _ l, le-ltb _ _ u)

  pub out_of_window : Outside lo id → in_window f lo id ≡ id
  out_of_window o =
      elim (lt_or id lo) [
        | inl l ↦ below_window l
        | inr l ↦
            elim (lt_or (id - lo) window) [
              | inl u ↦ absurd (o.is (id - lo) u (omega arith))
              | inr u ↦ past_window l u
            ]
      ]

-- two functions that agree on the window
in_same : (f g : ℕ → ℕ) → ((k : ℕ) → k < window → f k ≡ g k) → (lo id : ℕ) → in_window f lo id ≡ in_window g lo id
in_same f g e lo id =
    elim (lt_or id lo) [
      | inl l ↦ below_window f lo id l ∙ sym (below_window g lo id l)
      | inr l ↦
          elim (lt_or (id - lo) window) [
            | inl u ↦ in_window_law f lo id l u ∙ e (id - lo) u ∙ sym (in_window_law g lo id l u)
            | inr u ↦ past_window f lo id l u ∙ sym (past_window g lo id l u)
          ]
    ]

-- the table of the window's numbers says what is counted
pub unrolled_same : {bits numbers : List ℕ} {first : ℕ} → Unrolled bits first numbers
    → (lo id : ℕ) → in_window (λ k. get_or numbers k 0) lo id ≡ put_in bits first lo id
unfolding put_in
unrolled_same {bits} {numbers} {first} u =
    in_same (λ k. get_or numbers k 0) (λ k. first + count (marked bits) k) u.is

-- so with its number, counted
pub counted_same : (bits : List ℕ) (first lo id : ℕ)
    → in_window (λ k. first + count (marked bits) k) lo id ≡ put_in bits first lo id
unfolding put_in
counted_same bits first lo id = refl
