-- The id in use with a number. Assumes nothing.
--     Id            below n, an id in use with number k
--     with_number   there is one for every number below the count
use Prim.Native.Nat.{ℕ, zero, suc, ◌≤◌, ◌<◌}
use native.Mathlib.Omega.{arith}
use mathlib.Core.Path.{◌≡◌, refl}
use mathlib.Core.Logic.{inl, inr}
use mathlib.Core.Bool.{Bool, true, false}
use mathlib.Core.List.{List}
use lib.Dec.{T}
use Rattle.basics.specs.Lists.{count}
use Rattle.basics.proofs.Test.{true_T, lt_or}
use Rattle.numbering.specs.Nodes.{used, node_number}
use Rattle.numbering.proofs.Used.{number_next, number_stays}

module _ (rows : List ℕ) where
  pub record Id (n k : ℕ) : Type 0 where
    pub id : ℕ
    pub is_used : T (used rows id)
    pub under : id < n
    pub has : node_number rows id ≡ k

  -- the last id is the one, or an earlier one is
  next_id : (n k : ℕ) → k < node_number rows (suc n) → (k < node_number rows n → Id n k) → Id (suc n) k
  next_id n k l rec = elim (lt_or k (node_number rows n)) [ inl m ↦ earlier (rec m) | inr m ↦ last (used rows n) refl m ]
    where
      earlier : Id n k → Id (suc n) k
      earlier u = record { id = u.id; is_used = u.is_used; under = omega (arith, u.under); has = u.has }

      last : (b : Bool) → used rows n ≡ b → node_number rows n ≤ k → Id (suc n) k
      last true e m =
          let t = true_T (used rows n) e in
          record { id = n; is_used = t; under = omega arith; has = omega (arith, number_next rows n t) }
      last false e m = absurd (omega (arith, number_stays rows n e))

  pub with_number : (n k : ℕ) → k < node_number rows n → Id n k
  unfolding node_number count
  with_number zero k l = absurd (omega arith)
  with_number (suc n) k l = next_id n k l (with_number n k)
