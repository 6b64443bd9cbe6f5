-- How many points have moved: a turn counts one more, or none. Assumes nothing.
use Prim.Native.Nat.{ℕ, zero, suc, ◌+◌, ◌≤◌, ◌<◌}
use native.Mathlib.Omega.{arith}
use mathlib.Core.Path.{◌≡◌, ap, ◌∙◌}
use mathlib.Core.Logic.{inl, inr}
use mathlib.Core.Bool.{Bool, true, false}
use mathlib.Core.List.{List}
use lib.ListN.{length, get_or, set, length-set}
use lib.Seq.{get_or-set_same, get_or-set_other}
use Rattle.basics.specs.Lists.{count}
use Rattle.basics.proofs.Test.{lt_or}
use Rattle.basics.proofs.Search.{count_same, count_le, count_none}
use Rattle.lattice.specs.Direction.{Code}
use Rattle.moving.specs.State.{is_move}
use Rattle.moving.specs.Reading.{Reading}
use Rattle.moving.specs.Moving.{outset}
use Rattle.moving.proofs.Bytes.{code_move}
use Rattle.moving.proofs.Moved.{outset_long, outset_none}
use Rattle.filling.specs.Fill.{moved_count}

-- two tests that differ at one number only, which one of them passes
one_more : (f g : ℕ → Bool) (n p : ℕ) → p < n → ((j : ℕ) → (j ≡ p → ⊥) → g j ≡ f j) → f p ≡ false → g p ≡ true
    → count g n ≡ count f n + 1
unfolding count
one_more f g zero p h e a b = absurd (omega arith)
one_more f g (suc n) p h e a b =
    elim (lt_or p n) [
      | inl l ↦ rw (e n (λ z. omega arith)) (omega (arith, one_more f g n p l e a b))
      | inr l ↦
          let z : n ≡ p = omega arith in
          let same = count_same g f n (λ j u. e j (λ z. omega arith)) in
          rw (same, z, a, b) (omega arith)
    ]

-- a point that moves
pub counted_move : (t : List ℕ) (p c : ℕ) → p < length t → is_move (get_or t p 0) ≡ false → Code c → moved_count (set t p c) ≡ moved_count t + 1
unfolding moved_count
counted_move t p c h z k =
    rw (length-set t p c)
    (one_more (λ j. is_move (get_or t j 0)) (λ j. is_move (get_or (set t p c) j 0)) (length t) p h
    (λ j n. ap is_move (get_or-set_other t p j c 0 n)) z (ap is_move (get_or-set_same t p c 0 h) ∙ code_move c k))

pub counted_few : (t : List ℕ) → moved_count t ≤ length t
unfolding moved_count
counted_few t = count_le (λ j. is_move (get_or t j 0)) (length t)

pub counted_none : (m : Reading) → moved_count (outset m) ≡ 0
unfolding moved_count
counted_none m =
    count_none (λ j. is_move (get_or (outset m) j 0)) (length (outset m)) (λ j l. outset_none m j (omega (arith, outset_long m)))
