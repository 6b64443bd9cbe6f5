-- How much oftener a face runs from p to q than back. Assumes nothing.
--     net, net_count     it, and what it adds up to over a list of faces
--     net_alternating    it changes sign with the winding
--     row_closed         over the four faces of a row it adds up to nothing
use Prim.Native.Nat.{ℕ, ◌+◌}
use native.Mathlib.Omega.{arith}
use mathlib.Core.Path.{◌≡◌, refl, sym, ◌∙◌, ap}
use mathlib.Core.Bool.{Bool, true, false, ◌&&◌, ◌||◌, and_comm, or_comm}
use mathlib.Core.List.{List, [], ◌∷◌}
use lib.Dec.{T, eqb, eqb→eq}
use lib.IntN.{ℤ, pos, negsuc, ◌+ℤ◌, ◌-ℤ◌, neg_ℤ}
use Rattle.std.specs.Prelude.{if◌then◌else◌}
use Rattle.basics.proofs.Test.{◌&◌, Member, here, there, every, every_use}
use Rattle.basics.proofs.Tested.{pairs, pairs_member}
use Rattle.basics.proofs.Integer.{nat, int, ◌⊕◌, ◌⊖◌, minus, ring}
use Rattle.stencil.specs.Row.{Row, row, Face, face, Third, t0, t1, t2, cycled, exchanged}
use Rattle.boundary.specs.Sum.{sum, how_many}
use Rattle.boundary.specs.Boundary.{runs}
use Rattle.boundary.proofs.Cancel.{Alternating, of_row}

abbrev one : Bool → ℕ
one b = if b then 1 else 0

pub net : ℕ → ℕ → Face ℕ → ℤ
net p q g = pos (one (runs p q g)) -ℤ pos (one (runs q p g))

pub net_count : (p q : ℕ) (l : List (Face ℕ))
    → sum (net p q) l ≡ pos (how_many (runs p q) l) -ℤ pos (how_many (runs q p) l)
unfolding sum net how_many
net_count p q [] = refl
net_count p q (g ∷ l) =
    let m = one (runs p q g) in
    let n = one (runs q p g) in
    let k = how_many (runs p q) l in
    let j = how_many (runs q p) l in
    ap (λ (z : ℤ). net p q g +ℤ z) (net_count p q l)
    ∙ ring (nat m ⊖ nat n ⊕ (nat k ⊖ nat j)) (nat (m + k) ⊖ nat (n + j)) (omega arith)

-- the other winding runs from p to q where the one runs from q to p
or_left : (a b c : Bool) → (a || (b || c)) ≡ (b || (a || c))
or_left true true c = refl
or_left true false c = refl
or_left false b c = refl

runs_back : (p q : ℕ) (g : Face ℕ) (r : Third) → runs p q (exchanged (cycled r g)) ≡ runs q p g
unfolding runs
runs_back p q (face x y z) t0 = simp (and_comm, or_comm, or_left)
runs_back p q (face x y z) t1 = simp (and_comm, or_comm, or_left)
runs_back p q (face x y z) t2 = simp (and_comm, or_comm, or_left)

pub net_alternating : (p q : ℕ) → Alternating (net p q)
unfolding net
net_alternating p q g h o =
    ap (net p q) o.1
    ∙ (λ i. pos (one (runs_back p q g o.0 i)) -ℤ pos (one (runs_back q p g o.0 i)))
    ∙ back (pos (one (runs p q g))) (pos (one (runs q p g)))
  where
    back : (x y : ℤ) → y -ℤ x ≡ neg_ℤ (x -ℤ y)
    back x y = ring (int y ⊖ int x) (minus (int x ⊖ int y)) (omega arith)

-- the four faces of a row, by a test of all that matters of a corner: whether it is p, and whether it is q
abbrev Ends : Type 0
Ends = Bool × Bool

abbrev ends : List Ends
ends = (false, false) ∷ (true, false) ∷ (false, true) ∷ []

ends_i : (a b : Bool) → (T a → T b → ⊥) → Member (a, b) ends
ends_i false false h = here
ends_i true false h = there here
ends_i false true h = there (there here)
ends_i true true h = absurd (h tt tt)

abbrev along : Ends → Ends → Ends → Bool
along x y z = (x.0 && y.1) || ((y.0 && z.1) || (z.0 && x.1))

abbrev flip : Ends → Ends
flip x = (x.1, x.0)

between : Ends → Ends → Ends → ℤ
between x y z = pos (one (along x y z)) -ℤ pos (one (along (flip x) (flip y) (flip z)))

around : (Ends × Ends) × (Ends × Ends) → ℤ
around ((a, b), (c, d)) = between b c d +ℤ (between a d c +ℤ (between a b d +ℤ (between a c b +ℤ pos 0)))

is_nothing : ℤ → Bool
is_nothing (pos n) = eqb n 0
is_nothing (negsuc n) = false

nothing_use : (z : ℤ) → T (is_nothing z) → z ≡ pos 0
unfolding is_nothing
nothing_use (pos n) t = ap pos (eqb→eq n 0 t)
nothing_use (negsuc n) t = absurd t

around_ok : T (every (λ r. is_nothing (around r)) (pairs (pairs ends ends) (pairs ends ends)))
unfolding ◌&◌ between around is_nothing
around_ok = tt

pub row_closed : (p q : ℕ) → (p ≡ q → ⊥) → (r : Row ℕ) → of_row (net p q) r ≡ pos 0
unfolding sum net runs between around
row_closed p q ne (row a b c d) =
    nothing_use (around ((is a, is b), (is c, is d)))
    (every_use (λ r. is_nothing (around r)) (pairs (pairs ends ends) (pairs ends ends)) around_ok
    (pairs_member (pairs_member (fits a) (fits b)) (pairs_member (fits c) (fits d))))
  where
    is : ℕ → Ends
    is x = (eqb x p, eqb x q)

    fits : (x : ℕ) → Member (is x) ends
    fits x = ends_i (eqb x p) (eqb x q) (λ t u. ne (sym (eqb→eq x p t) ∙ eqb→eq x q u))
