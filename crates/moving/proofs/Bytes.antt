-- Labels by state bytes, and violations taken apart and put together. Assumes nothing.
use Prim.Native.Nat.{ℕ, ◌≤◌, ◌<◌}
use native.Mathlib.Omega.{arith}
use mathlib.Core.Path.{◌≡◌, refl, sym, ◌∙◌, subst}
use mathlib.Core.Logic.{◌⊎◌, inl, inr}
use mathlib.Core.Bool.{Bool, true, false, not, ◌&&◌}
use mathlib.Core.List.{List}
use lib.ListN.{length, get_or, set}
use lib.Seq.{get_or-set_same, get_or-set_other}
use lib.Dec.{T, eqb, leb, leb→le}
use borrow.Author.Tests.{eqb-true, eqb-false, eq-eqb, ne_eqb, le-leb, lt-leb}
use Rattle.std.specs.Prelude.{if◌then◌else◌, Option, Some, None}
use Rattle.basics.proofs.Test.{&&-l, &&-r, &&-i, or_cases, true_T, T_true}
use Rattle.lattice.specs.Counts.{points}
use Rattle.lattice.specs.Direction.{Code, direction_of}
use Rattle.lattice.specs.Edge.{neighbour}
use Rattle.moving.specs.declared.Label.{Label}
use Rattle.moving.specs.declared.Label.TheVariants.{Zero}
use Rattle.moving.specs.Label.{is_zero}
use Rattle.moving.specs.Violation.{Rule, limit, measured, squared, violation, violated, violates}
use Rattle.moving.specs.State.{is_move, skin_mark, no_move}
use Rattle.moving.specs.Reading.{Reading, label_after, live, cut_along, violation_along}
use Rattle.moving.proofs.Settled.{NonZero, Violating, violated_by, MayMove}

-- two numbers are equal or not
pub same_or : (a b : ℕ) → (a ≡ b) ⊎ (a ≡ b → ⊥)
same_or a b = go (eqb a b) refl
  where
    go : (t : Bool) → eqb a b ≡ t → (a ≡ b) ⊎ (a ≡ b → ⊥)
    go true e = inl (eqb-true a b e)
    go false e = inr (eqb-false a b e)

-- codes are moves and moves codes; 0 and the mark are none
pub code_move : (c : ℕ) → Code c → is_move c ≡ true
unfolding is_move
code_move c h = simp (le-leb 1 c h.low, le-leb c 14 h.high)

pub move_code : (c : ℕ) → is_move c ≡ true → Code c
unfolding is_move
move_code c e =
    let t = true_T (leb 1 c && leb c 14) e in
    record { low = leb→le 1 c (&&-l (leb 1 c) _ t); high = leb→le c 14 (&&-r (leb 1 c) _ t) }

pub zero_rests : (c : ℕ) → c ≡ 0 → is_move c ≡ false
unfolding is_move
zero_rests c e = rw e refl

pub mark_rests : (c : ℕ) → c ≡ skin_mark → is_move c ≡ false
unfolding is_move
mark_rests c e = rw e refl

pub strange_rests : (c : ℕ) → 14 < c → is_move c ≡ false
unfolding is_move
strange_rests c l = rw (lt-leb c 14 l, le-leb 1 c (omega arith)) refl

-- no move is 0 or the mark, and only these
pub zero_none : (c : ℕ) → c ≡ 0 → no_move c ≡ true
unfolding no_move
zero_none c e = rw e refl

pub mark_none : (c : ℕ) → c ≡ skin_mark → no_move c ≡ true
unfolding no_move
mark_none c e = rw e refl

-- so neither is a move
pub none_rests : (c : ℕ) → no_move c ≡ true → is_move c ≡ false
unfolding no_move
none_rests c e =
    elim (or_cases (eqb c 0) (eqb c skin_mark) (true_T _ e)) [
      | inl t ↦ zero_rests c (eqb-true c 0 (T_true _ t))
      | inr t ↦ mark_rests c (eqb-true c skin_mark (T_true _ t))
    ]

pub code_some : (c : ℕ) → Code c → no_move c ≡ false
unfolding no_move
code_some c h = rw (ne_eqb c 0 (λ e. omega (arith, h.low)), ne_eqb c skin_mark (λ e. omega (arith, h.high))) refl

pub strange_some : (c : ℕ) → skin_mark < c → no_move c ≡ false
unfolding no_move
strange_some c l = rw (ne_eqb c 0 (λ e. omega arith), ne_eqb c skin_mark (λ e. omega arith)) refl

-- an entry of a table after one of them was set to a code: 0 only if it was 0 before
pub set_zero : (t : List ℕ) (p c q : ℕ) → p < length t → Code c → get_or (set t p c) q 0 ≡ 0 → get_or t q 0 ≡ 0
set_zero t p c q h k z =
    elim (same_or q p) [
      | inl e ↦ absurd (omega (arith, k.low, sym (get_or-set_same t p c 0 h) ∙ (rw e at z)))
      | inr n ↦ sym (get_or-set_other t p q c 0 n) ∙ z
    ]

module _ (label : ℕ → Label) (codes : List ℕ) where
  -- a label in terms of its state byte
  pub label_still : (p : ℕ) → get_or codes p 0 ≡ 0 → label_after label codes p ≡ label p
  unfolding label_after
  label_still p e = simp (eq-eqb _ _ e)

  pub label_moved : (p : ℕ) → (get_or codes p 0 ≡ 0 → ⊥) → label_after label codes p ≡ Zero
  unfolding label_after
  label_moved p n = simp (ne_eqb _ _ n)

  -- a label that is not zero is that of the outset, and the byte is 0
  pub nonzero_still : (p : ℕ) → NonZero (label_after label codes p) → get_or codes p 0 ≡ 0
  unfolding is_zero
  nonzero_still p t =
      elim (same_or (get_or codes p 0) 0) [
        | inl e ↦ e
        | inr n ↦ absurd (subst NonZero (label_moved p n) t)
      ]

  pub nonzero_outset : (p : ℕ) → NonZero (label_after label codes p) → NonZero (label p)
  nonzero_outset p t = subst NonZero (label_still p (nonzero_still p t)) t

  pub nonzero_i : (p : ℕ) → get_or codes p 0 ≡ 0 → NonZero (label p) → NonZero (label_after label codes p)
  nonzero_i p e t = subst NonZero (sym (label_still p e)) t

-- a cut that violates is within the limit
pub violates_within : (r : Rule) (c t : ℕ) → T (violates r c t) → measured c t ≤ limit r (direction_of c)
unfolding violation violated
violates_within r c t v = go (not (eqb t 0) && leb (measured c t) (limit r (direction_of c))) refl v
  where
    go : (b : Bool) → (not (eqb t 0) && leb (measured c t) (limit r (direction_of c))) ≡ b
        → T (violated (if b then Some (squared (direction_of c) (measured c t)) else None))
        → measured c t ≤ limit r (direction_of c)
    go true e v = leb→le _ _ (&&-r (not (eqb t 0)) _ (true_T _ e))
    go false e v = absurd v

module _ (m : Reading) (codes : List ℕ) (p c : ℕ) where
  -- the violating cut of a code that violates
  pub violating_of : p < points m.sizes → Code c → T (violated_by m codes p c) → MayMove m codes p c
  unfolding violation_along violated live
  violating_of h k t = go (neighbour m.sizes p c) refl t
    where
      along : (q : ℕ) → neighbour m.sizes p c ≡ Some q → (b : Bool) → live m.label codes p q ≡ b
          → T (violated (if b then violation m.rule c (cut_along m p c q) else None)) → MayMove m codes p c
      along q e false l t = absurd t
      along q e true l t =
          let here-alive = not (is_zero (label_after m.label codes p)) in (
            q,
            record {
              edge = record { point = h; code = k; leads = e };
              here = &&-l here-alive _ (true_T _ l);
              there = &&-r here-alive _ (true_T _ l);
              near = t;
            },
          )

      go : (n : Option ℕ) → neighbour m.sizes p c ≡ n → T (violated (violation_along m codes p c n)) → MayMove m codes p c
      go None e t = absurd t
      go (Some q) e t = along q e (live m.label codes p q) refl t

  pub violating_i : (q : ℕ) → Violating m codes p c q → T (violated_by m codes p c)
  unfolding violation_along live
  violating_i q v =
      let here-alive = not (is_zero (label_after m.label codes p)) in
      rw (v.edge.leads, T_true (live m.label codes p q) (&&-i here-alive _ v.here v.there)) v.near
