-- The fourteen codes: what is computed of all of them, and each rule that follows. Assumes nothing.
use Prim.Native.Nat.{ℕ, ◌+◌, ◌%◌, ◌≤◌, ◌<◌}
use native.Mathlib.Omega.{arith}
use mathlib.Core.Path.{◌≡◌, refl, ap}
use mathlib.Core.Logic.{◌⊎◌, inl, inr}
use mathlib.Core.Bool.{Bool, true, false, not, ◌||◌, beq}
use lib.Dec.{T, eqb, eqb→eq, leb, leb→le}
use Rattle.basics.specs.Lists.{from, below}
use Rattle.basics.proofs.Test.{◌&◌, and_l, and_r, or_cases, imp, imp_use, T_true, true_T, beq_use, eqb_of}
use Rattle.basics.proofs.Test.{every, every_use, from_member, below_use}
use Rattle.basics.proofs.Finite.{each, each_use, each_i}
use Rattle.lattice.specs.Axis.{Axis}
use Rattle.lattice.specs.Direction.{directions, direction, long, Code, as_start, is_start, direction_of, step, opposite}
use Rattle.lattice.proofs.Axes.{the_axes}

-- a test of every code
abbrev pub each_code : (ℕ → Bool) → Bool
each_code f = every f (from 1 14)

pub each_code_use : (f : ℕ → Bool) → T (each_code f) → (c : ℕ) → Code c → T (f c)
each_code_use f t c h = every_use f (from 1 14) t (from_member 1 14 c h.low (omega arith))

-- a passed test, as a record, so that the test is inferred where the fact is used
record Codes (f : ℕ → Bool) : Type 0 where
  passed : T (each_code f)

record Steps (f : ℕ → Axis → Bool) : Type 0 where
  passed : T (each_code (λ c. each the_axes (f c)))

code : {f : ℕ → Bool} → Codes f → (c : ℕ) → Code c → T (f c)
code {f} t c h = each_code_use f t.passed c h

along : {f : ℕ → Axis → Bool} → Steps f → (c : ℕ) → Code c → (a : Axis) → T (f c a)
along {f} t c h a = each_use the_axes (f c) (each_code_use (λ c. each the_axes (f c)) t.passed c h) a

-- along each axis a step goes up or down and not both, and no further than 2
up_or_down : Steps (λ c a. eqb (step c a).up 0 || eqb (step c a).down 0)
unfolding ◌&◌ from step direction directions is_start direction_of
up_or_down = record { passed = tt }

ups_small : Steps (λ c a. leb (step c a).up 2)
unfolding ◌&◌ from step direction directions is_start direction_of
ups_small = record { passed = tt }

downs_small : Steps (λ c a. leb (step c a).down 2)
unfolding ◌&◌ from step direction directions is_start direction_of
downs_small = record { passed = tt }

-- a long one goes by an even number, a short one by 1
evens : Steps (λ c a. imp (long (direction_of c)) (eqb ((step c a).up % 2) 0 & eqb ((step c a).down % 2) 0))
unfolding ◌&◌ from step direction directions long is_start direction_of
evens = record { passed = tt }

ones : Steps (λ c a. imp (not (long (direction_of c))) (eqb ((step c a).up + (step c a).down) 1))
unfolding ◌&◌ from step direction directions long is_start direction_of
ones = record { passed = tt }

-- at its other end an edge has the opposite code: the same direction, from the other side
lows : Codes (λ c. leb 1 (opposite c))
unfolding ◌&◌ from opposite is_start
lows = record { passed = tt }

highs : Codes (λ c. leb (opposite c) 14)
unfolding ◌&◌ from opposite is_start
highs = record { passed = tt }

twice : Codes (λ c. eqb (opposite (opposite c)) c)
unfolding ◌&◌ from opposite is_start
twice = record { passed = tt }

sides : Codes (λ c. beq (is_start (opposite c)) (not (is_start c)))
unfolding ◌&◌ from opposite is_start
sides = record { passed = tt }

ways : Codes (λ c. eqb (direction_of (opposite c)) (direction_of c))
unfolding ◌&◌ from opposite is_start direction_of
ways = record { passed = tt }

back_up : Steps (λ c a. eqb (step (opposite c) a).up (step c a).down)
unfolding ◌&◌ from opposite step direction directions is_start direction_of
back_up = record { passed = tt }

back_down : Steps (λ c a. eqb (step (opposite c) a).down (step c a).up)
unfolding ◌&◌ from opposite step direction directions is_start direction_of
back_down = record { passed = tt }

-- no two codes lead the same way
same_way : ℕ → ℕ → Axis → Bool
same_way c e a = eqb ((step c a).up + (step e a).down) ((step e a).up + (step c a).down)

apart : Codes (λ c. each_code (λ e. imp (each the_axes (same_way c e)) (eqb c e)))
unfolding ◌&◌ from same_way step direction directions is_start direction_of
apart = record { passed = tt }

-- the first seven codes are those of a start
starts : T (every (λ d. is_start (as_start d)) (below 7))
unfolding ◌&◌ from is_start
starts = tt

module _ (c : ℕ) (h : Code c) where
  pub opposite_code : Code (opposite c)
  opposite_code = record { low = leb→le _ _ (code lows c h); high = leb→le _ _ (code highs c h) }

  pub opposite_twice : opposite (opposite c) ≡ c
  opposite_twice = eqb→eq _ _ (code twice c h)

  pub opposite_start : is_start (opposite c) ≡ not (is_start c)
  opposite_start = beq_use _ _ (code sides c h)

  pub opposite_direction : direction_of (opposite c) ≡ direction_of c
  opposite_direction = eqb→eq _ _ (code ways c h)

  pub direction_lt : direction_of c < 7
  unfolding direction_of
  direction_lt = omega arith

  module _ (a : Axis) where
    pub one_way : ((step c a).up ≡ 0) ⊎ ((step c a).down ≡ 0)
    one_way =
        elim (or_cases (eqb (step c a).up 0) _ (along up_or_down c h a))
        [ inl t ↦ inl (eqb→eq _ _ t) | inr t ↦ inr (eqb→eq _ _ t) ]

    pub up_small : (step c a).up ≤ 2
    up_small = leb→le _ _ (along ups_small c h a)

    pub down_small : (step c a).down ≤ 2
    down_small = leb→le _ _ (along downs_small c h a)

    pub long_even : long (direction_of c) ≡ true → ((step c a).up % 2 ≡ 0) × ((step c a).down % 2 ≡ 0)
    long_even l =
        let t = imp_use (long (direction_of c)) _ (along evens c h a) (true_T _ l) in
        (eqb→eq _ _ (and_l _ _ t), eqb→eq _ _ (and_r (eqb ((step c a).up % 2) 0) _ t))

    pub short_one : long (direction_of c) ≡ false → (step c a).up + (step c a).down ≡ 1
    short_one l = let t = imp_use (not (long (direction_of c))) _ (along ones c h a) (true_T _ (ap not l)) in eqb→eq _ _ t

    pub opposite_up : (step (opposite c) a).up ≡ (step c a).down
    opposite_up = eqb→eq _ _ (along back_up c h a)

    pub opposite_down : (step (opposite c) a).down ≡ (step c a).up
    opposite_down = eqb→eq _ _ (along back_down c h a)

pub codes_apart : (c e : ℕ) → Code c → Code e
    → ((a : Axis) → (step c a).up + (step e a).down ≡ (step e a).up + (step c a).down) → c ≡ e
unfolding same_way
codes_apart c e h g way =
    let t = each_code_use (λ e. imp (each the_axes (same_way c e)) (eqb c e)) (code apart c h) e g in
    eqb→eq c e (imp_use (each the_axes (same_way c e)) (eqb c e) t (each_i the_axes (same_way c e) (λ a. eqb_of _ _ (way a))))

pub start_step : (d : ℕ) → d < 7 → (a : Axis) → step (as_start d) a ≡ direction d a
unfolding step direction_of
start_step d h a =
    let start = T_true (is_start (as_start d)) (below_use (λ d. is_start (as_start d)) 7 starts d h) in
    let same : direction_of (as_start d) ≡ d = omega arith in
    rw (start, same) refl
