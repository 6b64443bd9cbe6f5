-- Tables compared entry by entry, and answers of filling part by part. That these tests find every difference is proved in proofs/Difference.antt.
use Rattle.std.specs.Prelude.{ℕ, zero, suc, ◌+◌, Bool, true, false, ◌&&◌, List, [], ◌∷◌, ℤ, pos, negsuc, eqb}
use Rattle.std.specs.List.{list_all}
use Rattle.std.specs.Cmp.Lexicographic.{pointwise}
use Rattle.filling.specs.declared.Filled.{Filled}
use Rattle.blockfile.specs.Format.{two_at}

abbrev pub same : List ℕ → List ℕ → Bool
same = pointwise eqb

-- every entry is what the table was lent with
abbrev pub untouched : ℕ → List ℕ → Bool
untouched lent = list_all (λ (x : ℕ). eqb x lent)

-- n ids of two bytes each, from i on
unfoldable pub ids_from : List ℕ → ℕ → ℕ → List ℕ
ids_from bytes i zero = []
ids_from bytes i (suc n) = two_at bytes i ∷ ids_from bytes (i + 2) n

unfoldable pub same_sample : ℤ → ℤ → Bool
same_sample (pos a) (pos b) = eqb a b
same_sample (pos a) (negsuc b) = false
same_sample (negsuc a) (pos b) = false
same_sample (negsuc a) (negsuc b) = eqb a b

unfoldable pub same_samples : List ℤ → List ℤ → Bool
same_samples [] [] = true
same_samples [] (y ∷ ys) = false
same_samples (x ∷ xs) [] = false
same_samples (x ∷ xs) (y ∷ ys) = same_sample x y && same_samples xs ys

unfoldable pub same_answer : Filled → Filled → Bool
same_answer a b = eqb a.number b.number && (eqb a.rows b.rows && (eqb a.moved b.moved && eqb a.place b.place))
