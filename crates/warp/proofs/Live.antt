-- Cuts that are live, by the state bytes of their ends. Assumes nothing.
--     near_faded, far_decides   the code's tests
--     open_live                 F-8: in a table that moves have reached, a cut is live exactly if neither byte says that its label is zero
use Prim.Native.Nat.{ℕ, ◌<◌}
use mathlib.Core.Path.{◌≡◌, refl, sym}
use mathlib.Core.Bool.{true, false, not, ◌&&◌}
use mathlib.Core.List.{List}
use lib.ListN.{get_or}
use Rattle.std.proofs.Common.{None, Option, Some}
use Rattle.lattice.specs.Counts.{points}
use Rattle.lattice.specs.Direction.{Code}
use Rattle.lattice.specs.Edge.{neighbour}
use Rattle.lattice.proofs.Edge.{neighbour_lt}
use Rattle.moving.specs.State.{says_zero}
use Rattle.moving.specs.Reading.{Reading, live}
use Rattle.moving.specs.Moving.{outset}
use Rattle.moving.proofs.Settled.{Reached}
use Rattle.moving.proofs.Moved.{zero_said}
use Rattle.warp.specs.inner.Quick.{live_along, unfaded, open_along}

module _ (codes : List ℕ) (p q : ℕ) where
  pub near_faded : says_zero (get_or codes p 0) ≡ true → false ≡ unfaded codes p q
  unfolding unfaded
  near_faded e = simp e

  pub far_decides : says_zero (get_or codes p 0) ≡ false → not (says_zero (get_or codes q 0)) ≡ unfaded codes p q
  unfolding unfaded
  far_decides e = simp e

module _ (m : Reading) {codes : List ℕ} (reached : Reached m (outset m) codes) (p : ℕ) (h : p < points m.sizes) where
  pub open_live : (c : ℕ) → Code c → open_along codes p (neighbour m.sizes p c) ≡ live_along m.label codes p (neighbour m.sizes p c)
  unfolding open_along unfaded live_along live
  open_live c k = go (neighbour m.sizes p c) refl
    where
      go : (n : Option ℕ) → neighbour m.sizes p c ≡ n → open_along codes p n ≡ live_along m.label codes p n
      go None e = refl
      go (Some q) e =
          let here = zero_said m reached p h in
          let there = zero_said m reached q (neighbour_lt m.sizes p c q h k e) in
          λ i. not (sym here i) && not (sym there i)
