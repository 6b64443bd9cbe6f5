-- A passed comparison leaves no difference, and equal tables pass. Assumes nothing.
use Prim.Native.Nat.{ℕ, suc}
use mathlib.Core.Path.{◌≡◌, refl, ap₂}
use mathlib.Core.Bool.{true}
use mathlib.Core.List.{List, [], ◌∷◌}
use lib.ListN.{length, replicate}
use lib.Dec.{T, eqb, eqb→eq}
use borrow.Author.Tests.{eq-eqb}
use Rattle.basics.proofs.Test.{&&-l, &&-r}
use Rattle.comparison.specs.program.Same.{same, untouched}

pub same_equal : (xs ys : List ℕ) → T (same xs ys) → xs ≡ ys
same_equal [] [] t = refl
same_equal [] (y ∷ ys) t = absurd t
same_equal (x ∷ xs) [] t = absurd t
same_equal (x ∷ xs) (y ∷ ys) t = ap₂ {C = List ℕ} (λ a l. a ∷ l) (eqb→eq x y (&&-l (eqb x y) _ t)) (same_equal xs ys (&&-r (eqb x y) _ t))

pub same_itself : (xs : List ℕ) → same xs xs ≡ true
same_itself [] = refl
same_itself (x ∷ xs) = simp (eq-eqb x x refl, same_itself xs)

pub untouched_all : (lent : ℕ) (xs : List ℕ) → T (untouched lent xs) → xs ≡ replicate (length xs) lent
untouched_all lent [] t = refl
untouched_all lent (x ∷ xs) t =
    ap₂ {C = List ℕ} (λ a l. a ∷ l) (eqb→eq x lent (&&-l (eqb x lent) _ t)) (untouched_all lent xs (&&-r (eqb x lent) _ t))

pub untouched_lent : (lent n : ℕ) → untouched lent (replicate n lent) ≡ true
untouched_lent lent ℕ.zero = refl
untouched_lent lent (suc n) = simp (eq-eqb lent lent refl, untouched_lent lent n)
