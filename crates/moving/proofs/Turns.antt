-- Turns along an order, whatever is chosen: what a turn writes, and what it leaves alone. Assumes nothing.
use Prim.Native.Nat.{ℕ, zero, suc, ◌+◌, ◌<◌}
use native.Mathlib.Omega.{arith}
use mathlib.Core.Path.{◌≡◌, refl, sym, ◌∙◌, subst, ap}
use mathlib.Core.Bool.{Bool, true, false}
use mathlib.Core.List.{List, [], ◌∷◌, ◌++◌}
use lib.ListN.{length, get_or, set, length-set}
use lib.Dec.{T}
use lib.Seq.{get_or-set_same, get_or-set_other}
use Rattle.std.specs.Prelude.{if◌then◌else◌}
use Rattle.basics.specs.Lists.{from, below}
use Rattle.basics.proofs.Test.{Member, here, there}
use Rattle.lattice.specs.Direction.{Code}
use Rattle.moving.specs.State.{is_move}
use Rattle.moving.specs.Order.{move_to, turn, move_by}
use Rattle.moving.proofs.Bytes.{code_move, zero_rests}

false_true : ◌≡◌ {A = Bool} false true → ⊥
false_true e = subst T (sym e) tt

pub from_suc : (a n : ℕ) → from a (suc n) ≡ from a n ++ (a + n) ∷ []
unfolding from
from_suc a zero = ap (λ (k : ℕ). k ∷ []) (omega arith)
from_suc a (suc n) =
    let last : suc a + n ≡ a + suc n = omega arith in
    ap (λ (l : List ℕ). a ∷ l) (from_suc (suc a) n ∙ ap (λ (k : ℕ). from (suc a) n ++ k ∷ []) last)

-- the entry of a point that chooses c
abbrev pub entry_of : ℕ → ℕ → ℕ
entry_of c before = if is_move c then c else before

module _ (pick : List ℕ → ℕ → ℕ) where
  module _ (t : List ℕ) (p : ℕ) where
    pub turn_still : pick t p ≡ 0 → turn pick t p ≡ t
    unfolding turn move_to
    turn_still z = simp (zero_rests _ z)

    pub turn_moves : Code (pick t p) → turn pick t p ≡ set t p (pick t p)
    unfolding turn move_to
    turn_moves k = simp (code_move _ k)

    pub turn_entry : p < length t → get_or (turn pick t p) p 0 ≡ entry_of (pick t p) (get_or t p 0)
    unfolding turn move_to
    turn_entry h = go (is_move (pick t p))
      where
        go : (b : Bool) → get_or (if b then set t p (pick t p) else t) p 0 ≡ (if b then pick t p else get_or t p 0)
        go true = get_or-set_same t p (pick t p) 0 h
        go false = refl

    pub turn_other : (q : ℕ) → (q ≡ p → pick t p ≡ 0) → get_or (turn pick t p) q 0 ≡ get_or t q 0
    unfolding turn move_to
    turn_other q h = go (is_move (pick t p)) refl
      where
        go : (b : Bool) → is_move (pick t p) ≡ b → get_or (if b then set t p (pick t p) else t) q 0 ≡ get_or t q 0
        go true e = get_or-set_other t p q (pick t p) 0 (λ z. false_true (sym (zero_rests (pick t p) (h z)) ∙ e))
        go false e = refl

    pub turn_length : length (turn pick t p) ≡ length t
    unfolding turn move_to
    turn_length = go (is_move (pick t p))
      where
        go : (b : Bool) → length (if b then set t p (pick t p) else t) ≡ length t
        go true = length-set t p (pick t p)
        go false = refl

  -- a point that is not taken, or that never chooses, keeps its entry
  pub move_by_other : (order t : List ℕ) (q : ℕ) → (Member q order → (u : List ℕ) → pick u q ≡ 0)
      → get_or (move_by pick order t) q 0 ≡ get_or t q 0
  unfolding move_by
  move_by_other [] t q h = refl
  move_by_other (p ∷ order) t q h =
      move_by_other order (turn pick t p) q (λ i. h (there i))
      ∙ turn_other t p q (λ e. subst (λ (x : ℕ). pick t x ≡ 0) e (h (rw e here) t))

  pub move_by_append : (first next t : List ℕ) → move_by pick (first ++ next) t ≡ move_by pick next (move_by pick first t)
  unfolding move_by
  move_by_append [] next t = refl
  move_by_append (p ∷ first) next t = move_by_append first next (turn pick t p)

  pub move_by_length : (order t : List ℕ) → length (move_by pick order t) ≡ length t
  unfolding move_by
  move_by_length [] t = refl
  move_by_length (p ∷ order) t = move_by_length order (turn pick t p) ∙ turn_length t p

  -- the entry of a point that stands once in an order: what it chose at its turn
  pub move_by_at : (front : List ℕ) (p : ℕ) (back s : List ℕ) → p < length s → (Member p front → ⊥) → (Member p back → ⊥)
      → get_or (move_by pick (front ++ p ∷ back) s) p 0 ≡ entry_of (pick (move_by pick front s) p) (get_or s p 0)
  unfolding move_by
  move_by_at front p back s h not-front not_back =
      rw (move_by_append front (p ∷ back) s) (move_by_other back (turn pick at_turn p) p (λ i. absurd (not_back i)))
      ∙ turn_entry at_turn p (omega (arith, move_by_length front s))
      ∙ ap (entry_of (pick at_turn p)) (move_by_other front s p (λ i. absurd (not-front i)))
    where
      at_turn : List ℕ
      at_turn = move_by pick front s

  -- a loop over the points, ascending: after each turn the table is that of one point more
  pub move_by_suc : (n : ℕ) (t : List ℕ) → move_by pick (below (suc n)) t ≡ turn pick (move_by pick (below n) t) n
  unfolding move_by
  move_by_suc n t =
      let last : 0 + n ≡ n = omega arith in
      rw (from_suc 0 n, move_by_append (below n) ((0 + n) ∷ []) t, last) refl
