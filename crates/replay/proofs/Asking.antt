-- Recorded questions for the place of an id, one after the other. Assumes nothing.
use Prim.Native.Nat.{ℕ, suc, ◌+◌, ◌*◌, ◌-◌, ◌<◌, ◌≤◌}
use native.Mathlib.Omega.{arith}
use mathlib.Core.Path.{◌≡◌, refl, ap₂, ◌∙◌}
use mathlib.Core.Bool.{Bool, true, false, ◌&&◌}
use mathlib.Core.List.{List}
use lib.ListN.{length}
use lib.Dec.{eqb}
use borrow.Author.Tests.{eq-eqb, ne_eqb}
use Rattle.lattice.specs.declared.Sizes.{Sizes}
use Rattle.filling.specs.declared.Placed.{Placed}
use Rattle.filling.specs.Located.{locate}
use Rattle.yakuemi.specs.Measures.{sizes}
use Rattle.blockfile.specs.Format.{one_at, four_at, file_sizes}
use Rattle.replay.specs.declared.Asked.{Asked}
use Rattle.replay.specs.program.Questions.{
  asked_of,
  same_place,
  stated_place,
  answered,
  all_answered,
  questions_at,
  places_agree_with,
  places_agree,
}

-- places compared by the library
pub placed_same : (a b : Placed)
    → (eqb a.number b.number && (eqb a.x b.x && (eqb a.y b.y && eqb a.z b.z))) ≡ same_place a b
unfolding same_place
placed_same a b = refl

-- one question
pub answer_is : (body cuts state : List ℕ) (number i : ℕ) {nx ny nz id : ℕ} {p q : Placed} {r : Bool}
    → nx ≡ one_at body 0 → ny ≡ one_at body 1 → nz ≡ one_at body 2 → id ≡ four_at body i → p ≡ locate (sizes nx ny nz) cuts state id
    → q ≡ stated_place body number i → r ≡ same_place p q → r ≡ answered body number (file_sizes body) cuts state i
unfolding answered file_sizes
answer_is body cuts state number i x y z d e f g = g ∙ ap₂ same_place (e ∙ rw (x, y, z, d) refl) f

-- the questions that are left after i of them
module _ (body : List ℕ) (number : ℕ) (s : Sizes) (cuts state : List ℕ) (first n : ℕ) where
  abbrev pub answers_left : ℕ → Bool
  answers_left i = all_answered body number s cuts state (first + 10 * i) (n - i)

  pub all_left : answers_left 0 ≡ all_answered body number s cuts state first n
  all_left =
      let a : first + 10 * 0 ≡ first = omega arith in
      let b : n - 0 ≡ n = omega arith in
      rw (a, b)

  pub right_answer : (i : ℕ) {f : Bool} → i < n → f ≡ answered body number s cuts state (first + 10 * i) → f ≡ true
      → answers_left (i + 1) ≡ answers_left i
  unfolding all_answered
  right_answer i h r e =
      let k : n - i ≡ suc (n - (i + 1)) = omega arith in
      let p : first + 10 * (i + 1) ≡ first + 10 * i + 10 = omega arith in
      rw (k, p, ← r, e) refl

  pub wrong_answer : (i : ℕ) {f : Bool} → i < n → f ≡ answered body number s cuts state (first + 10 * i) → f ≡ false
      → false ≡ answers_left i
  unfolding all_answered
  wrong_answer i h r e =
      let k : n - i ≡ suc (n - (i + 1)) = omega arith in
      rw (k, ← r, e) refl

  pub none_left : (i : ℕ) → n ≤ i → true ≡ answers_left i
  unfolding all_answered
  none_left i h = let k : n - i ≡ 0 = omega arith in rw k refl

-- the head, then the questions
module _ (head body : List ℕ) (a : Asked) (e : a ≡ asked_of head) where
  pub no_questions : (length body ≡ questions_at a + 10 * a.questions → ⊥) → false ≡ places_agree head body
  unfolding places_agree
  no_questions ne = rw (← e) (simp (ne_eqb (length body) (questions_at a + 10 * a.questions) ne))

  pub questions_decide : {g : Bool} → length body ≡ questions_at a + 10 * a.questions → g ≡ places_agree_with body a
      → g ≡ places_agree head body
  unfolding places_agree
  questions_decide f t = rw (← e) (simp (eq-eqb (length body) (questions_at a + 10 * a.questions) f) t)
