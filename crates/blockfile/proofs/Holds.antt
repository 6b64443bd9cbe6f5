-- Whatever the input is, there is a start of it that a reader holds which asks for what is needed, again and again. Assumes
-- nothing.
--     Holds       it is the first so many bytes, and some if the input has any
--     held_of     it is found by asking
use Prim.Native.Nat.{ℕ, zero, suc, ◌+◌, ◌-◌, ◌<◌, ◌≤◌}
use native.Mathlib.Omega.{arith}
use mathlib.Core.Path.{◌≡◌, sym, ap, ◌∙◌}
use mathlib.Core.Logic.{◌⊎◌, inl, inr}
use mathlib.Core.List.{List, [], ◌++◌}
use lib.ListN.{length, take, drop}
use lib.Seq.{length-take-le, drop-length, take-add}
use Rattle.basics.proofs.Test.{lt_or}
use Rattle.blockfile.specs.inner.Needs.{needs, Held}
use Rattle.blockfile.proofs.Stages.{up_to_sizes, three}
use Rattle.blockfile.proofs.Settled.{grows}

pub record Holds (limit most : ℕ) (input : List ℕ) : Type 0 where
  pub count : ℕ
  pub some : 0 < length input → 0 < count
  pub held : Held limit most (take count input) (drop count input)

module _ (limit most : ℕ) (input : List ℕ) where
  -- how many bytes are needed if so many are held
  abbrev needed : ℕ → ℕ
  needed n = needs (take n input) limit

  -- more bytes need no less
  needed_more : (n m : ℕ) → n ≤ m → needed n ≤ needed m
  needed_more n m h =
      let e : n + (m - n) ≡ m = omega arith in
      let parts : take m input ≡ take n input ++ take (m - n) (drop n input) =
      ap (λ (k : ℕ). take k input) (sym e) ∙ take-add n (m - n) input in
      rw parts (grows (take n input) (take (m - n) (drop n input)) limit)

  -- the ways to end, with n bytes
  ending : (n : ℕ) → n ≤ length input → n ≤ needed n → (0 < length input → 0 < n)
      → (needed n ≤ n) ⊎ ((most < needed n) ⊎ (drop n input ≡ [])) → Holds limit most input
  ending n long more some h =
      let e = length-take-le n input long in
      record { count = n; some = some; held = record { no_more = omega arith; enough = rw e h } }

  -- all of it is held
  ending_all : length input ≤ needed (length input) → Holds limit most input
  ending_all h =
      ending (length input) (omega arith) h (λ z. z) (inr (inr (drop-length input)))

  module _ (few : 3 ≤ most) where
    -- the first three bytes are always asked for
    sizes_first : (n : ℕ) → most < needed n → 0 < n
    sizes_first zero h = absurd (omega (arith, up_to_sizes (take 0 input) limit (omega arith)))
    sizes_first (suc n) h = omega arith

    -- asking on, as long as less is held than may be
    asking : (k n : ℕ) → most ≤ n + k → n ≤ length input → n ≤ needed n → Holds limit most input
    asking zero n room long more =
        elim (lt_or most (needed n)) [
          | inl h ↦ ending n long more (λ z. sizes_first n h) (inr (inl h))
          | inr h ↦ ending n long more (λ z. omega arith) (inl (omega arith))
        ]
    asking (suc k) n room long more =
        elim (lt_or n (needed n)) [
          | inr h ↦ ending n long more (λ z. omega (arith, three (take n input) limit)) (inl h)
          | inl h ↦
              elim (lt_or most (needed n)) [
                | inl g ↦ ending n long more (λ z. sizes_first n g) (inr (inl g))
                | inr g ↦
                    elim (lt_or (length input) (needed n)) [
                      | inl l ↦ ending_all (omega (arith, needed_more n (length input) long))
                      | inr l ↦ asking k (needed n) (omega arith) l (needed_more n (needed n) (omega arith))
                    ]
              ]
        ]

    pub held_of : Holds limit most input
    held_of = asking most 0 (omega arith) (omega arith) (omega arith)
