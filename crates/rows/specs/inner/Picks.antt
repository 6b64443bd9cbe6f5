-- The corners of a tetrahedron in the order of the table, by the weights of their labels.
use Rattle.std.specs.Prelude.{ℕ, ◌+◌, ◌%◌, Bool, List, [], ◌∷◌, get_or, ltb, eqb, if◌then◌else◌}
use Rattle.moving.specs.declared.Label.{Label}
use Rattle.moving.specs.declared.Label.TheVariants.{Minus, Zero, Plus}

-- the weights of labels: those of four corners add up to the pattern's number
abbrev pub plus_weight : ℕ
plus_weight = 5

abbrev pub minus_weight : ℕ
minus_weight = 1

unfoldable pub weight : Label → ℕ
weight Minus = minus_weight
weight Zero = 0
weight Plus = plus_weight

-- the weight of one of four labels
abbrev pub weight_in : List Label → ℕ → ℕ
weight_in l v = weight (get_or l v Zero)

-- the pattern's number
unfoldable pub sum : List Label → ℕ
sum l = weight_in l 0 + (weight_in l 1 + (weight_in l 2 + weight_in l 3))

-- a corner before the rest, if it is taken
unfoldable pub picked : Bool → ℕ → List ℕ → List ℕ
picked taken v o = if taken then v ∷ get_or o 0 0 ∷ get_or o 1 0 ∷ get_or o 2 0 ∷ [] else o

-- the corners with a label, ascending, before the rest
unfoldable pub chosen : Label → List Label → List ℕ → List ℕ
chosen label l o =
    picked (eqb (weight_in l 0) (weight label)) 0
    (picked (eqb (weight_in l 1) (weight label)) 1
    (picked (eqb (weight_in l 2) (weight label)) 2 (picked (eqb (weight_in l 3) (weight label)) 3 o)))

-- plus, minus and zero corners
unfoldable pub ordered : List Label → List ℕ
ordered l = chosen Plus l (chosen Minus l (chosen Zero l (0 ∷ 0 ∷ 0 ∷ 0 ∷ [])))

-- how many pairs of corners the order exchanges
unfoldable pub inversion : ℕ → ℕ → ℕ
inversion a b = if ltb a b then 1 else 0

unfoldable pub is_even : List Label → Bool
is_even l =
    let a = weight_in l 0 in
    let b = weight_in l 1 in
    let c = weight_in l 2 in
    let d = weight_in l 3 in
    eqb ((inversion a b + inversion a c + inversion a d + (inversion b c + inversion b d + inversion c d)) % 2) 0
