-- Document 02's choice, the nearest violating cut. Assumes nothing.
--     nearest_cut                    the code by which a point moves violates it, none that violates is nearer, and none as near
--                                    has a lower number
--     choice_sound, choice_chooser   a point moves, to a cut that violates it, exactly if there is one
use Prim.Native.Nat.{ℕ}
use native.Mathlib.Omega.{arith}
use mathlib.Core.Path.{◌≡◌, subst}
use mathlib.Core.Logic.{inl, inr}
use mathlib.Core.List.{List}
use lib.Dec.{T}
use Rattle.std.proofs.Common.{Option}
use Rattle.moving.specs.Violation.{violated}
use Rattle.moving.specs.Reading.{Reading, violation_by}
use Rattle.moving.specs.Moving.{choice}
use Rattle.moving.proofs.Bytes.{violating_of, violating_i}
use Rattle.moving.proofs.Nearest.{Nearest, nearest_or}
use Rattle.moving.proofs.Taking.{Sound, Complete, Chooser}

module _ (m : Reading) where
  pub nearest_cut : (codes : List ℕ) (p : ℕ) → (choice m codes p ≡ 0 → ⊥)
      → (d : ℕ) × Nearest (violation_by m codes p) 14 (choice m codes p) d
  unfolding choice
  nearest_cut codes p n = elim (nearest_or (violation_by m codes p) 14 (omega arith)) [ inl z ↦ absurd (n z.0) | inr g ↦ g ]

  pub choice_sound : Sound m (choice m)
  unfolding violated
  choice_sound t p h n =
      let g = (nearest_cut t p n).1 in
      violating_of m t p (choice m t p) h (record { low = g.low; high = g.high }) (rw g.at tt)

  choice_complete : (p : ℕ) → Complete m (choice m) p
  unfolding choice violated
  choice_complete p t z c q v =
      elim (nearest_or (violation_by m t p) 14 (omega arith)) [
        | inl h ↦ subst (λ (w : Option ℕ). T (violated w)) (h.1 c v.edge.code.low v.edge.code.high) (violating_i m t p c q v)
        | inr g ↦ omega (arith, g.1.low)
      ]

  pub choice_chooser : Chooser m (choice m)
  choice_chooser = record { sound = choice_sound; complete = choice_complete }
