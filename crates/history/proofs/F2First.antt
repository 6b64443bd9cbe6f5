-- F-2, "Move to the nearest cut", compared: document 01's choice, the first code that violates, beside what moving asks of a choice.
-- Assumes nothing.
--
-- `first_choice` is document 01's choice itself: the rule that F-2 took away. What it reads is of today: labels, live cuts and violations
-- of any reading.
--     first_chooser   by it too a point moves, to a cut that violates it, exactly if there is one
use Prim.Native.Nat.{ℕ}
use native.Mathlib.Omega.{arith}
use mathlib.Core.Path.{◌≡◌, refl}
use mathlib.Core.Logic.{inl, inr}
use mathlib.Core.List.{List}
use lib.Dec.{ltb}
use borrow.Author.Tests.{lt-ltb, le-ltb}
use Rattle.std.specs.Prelude.{if◌then◌else◌}
use Rattle.basics.specs.Lists.{first_from}
use Rattle.basics.proofs.Test.{false_F, lt_or}
use Rattle.basics.proofs.Search.{first_found}
use Rattle.moving.specs.Reading.{Reading}
use Rattle.moving.proofs.Settled.{violated_by, MayMove}
use Rattle.moving.proofs.Bytes.{violating_of, violating_i}
use Rattle.moving.proofs.Taking.{Sound, Complete, Chooser}

-- "Its fourteen edges are tried in code order and the search stops at the first that violates"
unfoldable pub first_choice : Reading → List ℕ → ℕ → ℕ
first_choice m codes p = let c = first_from (violated_by m codes p) 14 1 in if ltb 14 c then 0 else c

module _ (m : Reading) where
  first_sound : Sound m (first_choice m)
  unfolding first_choice
  first_sound t p h = go (first_from (violated_by m t p) 14 1) refl
    where
      go : (c : ℕ) → first_from (violated_by m t p) 14 1 ≡ c → ((if ltb 14 c then 0 else c) ≡ 0 → ⊥)
          → MayMove m t p (if ltb 14 c then 0 else c)
      go c e n =
          let f = first_found (violated_by m t p) 14 1 in
          elim (lt_or 14 c) [
            | inl l ↦ absurd (n (simp (lt-ltb 14 c l)))
            | inr l ↦ rw (le-ltb 14 c l) (violating_of m t p c h (record { low = rw e at f.low; high = l })
                (rw e at (f.passes (omega arith))))
          ]

  first_complete : (p : ℕ) → Complete m (first_choice m) p
  unfolding first_choice
  first_complete p t z c q v =
      let f = first_found (violated_by m t p) 14 1 in
      elim (lt_or 14 r) [
        | inl l ↦ (let fails = f.fails c v.edge.code.low (omega (arith, v.edge.code.high)) in
            false_F _ fails (violating_i m t p c q v))
        | inr l ↦ (let none : r ≡ 0 = rw (le-ltb 14 r l) at z in absurd (omega (arith, f.low)))
      ]
    where
      r : ℕ
      r = first_from (violated_by m t p) 14 1

  pub first_chooser : Chooser m (first_choice m)
  first_chooser = record { sound = first_sound; complete = first_complete }
