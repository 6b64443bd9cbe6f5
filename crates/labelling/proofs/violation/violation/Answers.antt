-- No cut is farther than every limit. Assumes nothing.
use Prim.Native.Nat.{ℕ, ◌≤◌, ◌<◌}
use native.Mathlib.Omega.{arith}
use mathlib.Core.Path.{◌≡◌}
use mathlib.Core.Logic.{inl, inr}
use mathlib.Core.Bool.{Bool, true, false}
use borrow.Author.Tests.{eq-eqb, ne_eqb, le-leb, lt-leb}
use Rattle.std.specs.Prelude.{if◌then◌else◌, Some, None}
use Rattle.basics.proofs.Test.{lt_or}
use Rattle.lattice.specs.Direction.{long, direction_of}
use Rattle.moving.specs.Violation.{rule1, limit, measured, squared, violation}
use Rattle.labelling.proofs.violation.violation.Goals as goal

limit-lt : (d : ℕ) → limit rule1 d < 256
unfolding limit
limit-lt d = go (long d)
  where
    go : (t : Bool) → (if t then rule1.long_limit else rule1.short_limit) < 256
    go true = omega arith
    go false = omega arith

module _ (c t : ℕ) {far : ℕ} (none : t ≡ 0 → far ≡ 256) (some : (t ≡ 0 → ⊥) → far ≡ measured c t) where
  -- within the limit there is a cut, and it is that far
  within : {d l e : ℕ} → d ≡ direction_of c → l ≡ limit rule1 d → far ≤ l → e ≡ squared d far → Some e ≡ violation rule1 c t
  unfolding violation
  within {d} {l} f k u g =
      elim (lt_or 0 t) [
        | inl p ↦
            let n : t ≡ 0 → ⊥ = λ z. omega arith in
            let near = le-leb far l u in
            rw (g, ← f, ← k, ← some n) (simp (ne_eqb t 0 n, near))
        | inr p ↦ absurd (omega (arith, none (omega arith), limit-lt d))
      ]

  beyond : {d l : ℕ} → d ≡ direction_of c → l ≡ limit rule1 d → l < far → None ≡ violation rule1 c t
  unfolding violation
  beyond {d} f k u =
      elim (lt_or 0 t) [
        | inl p ↦
            let n : t ≡ 0 → ⊥ = λ z. omega arith in
            rw (← f, ← k, ← some n) (simp (ne_eqb t 0 n, lt-leb _ _ u))
        | inr p ↦ simp (eq-eqb t 0 (omega arith))
      ]

pub squared-requires : goal.squared-requires
squared-requires c = omega (arith, limit-lt c.direction-d.result)

pub returns-then-far-limit : goal.returns-then-far-limit
returns-then-far-limit c =
    let far = c.distance-far.ensures in
    within c.args.code.code c.args.t far.none far.some c.direction-d.ensures.value c.limit.ensures c.if-far-limit.true c.squared.ensures

pub returns-else-far-limit : goal.returns-else-far-limit
returns-else-far-limit c =
    let far = c.distance-far.ensures in
    beyond c.args.code.code c.args.t far.none far.some c.direction-d.ensures.value c.limit.ensures c.if-far-limit.false
