-- Answers of filling, compared by the library part by part. Assumes nothing.
use mathlib.Core.Path.{◌≡◌, refl}
use mathlib.Core.Bool.{◌&&◌}
use lib.Dec.{eqb}
use Rattle.filling.specs.declared.Filled.{Filled}
use Rattle.comparison.specs.program.Same.{same_answer}

pub answer_same : (a b : Filled)
    → (eqb a.number b.number && (eqb a.rows b.rows && (eqb a.moved b.moved && eqb a.place b.place))) ≡ same_answer a b
unfolding same_answer
answer_same a b = refl
