-- Document 01, "Lattice tetrahedra and rows": the table of patterns and rows.
use Rattle.std.specs.Prelude.{ℕ, ◌+◌, ◌*◌, ◌-◌, Bool, List, [], ◌∷◌, ◌++◌, length, get_or, ltb, leb, eqb, if◌then◌else◌}
use Rattle.moving.specs.declared.Label.{Label}
use Rattle.moving.specs.Label.{is_plus, is_minus, is_zero}
use Rattle.stencil.specs.Tetrahedron.{Vertex, v0, v1, v2, v3}
use Rattle.stencil.specs.Row.{Row, row}

-- an entry of a row: a corner of the tetrahedron, or the cut between two of them, the lower one first
pub data Entry (X : Type 0) : Type 0 where
  point : X → Entry X
  between : X → X → Entry X

abbrev pub rank : Vertex → ℕ
rank v0 = 0
rank v1 = 1
rank v2 = 2
rank v3 = 3

-- "A pair such as p1m2 is the cut between the two"
unfoldable pub cut : Vertex → Vertex → Entry Vertex
cut u v = if ltb (rank u) (rank v) then between u v else between v u

-- "p1, p2.. are the plus corners, m1.. the minus, z1.. the zero, each ascending in number"
unfoldable pub choose : (Label → Bool) → (Vertex → Label) → List Vertex
choose test l = pick v0 (pick v1 (pick v2 (pick v3 [])))
  where
    pick : Vertex → List Vertex → List Vertex
    pick v vs = if test (l v) then v ∷ vs else vs

-- "The pattern of four labels decides the rows": a line of the table each
pub data Stencil : Type 0 where
  no_plus plus_zero_only +++- ++-- ++-0 +--- +--0 +-00 : Stencil

-- the pattern's number, 5 times the count of plus corners, plus that of minus corners
abbrev pub pattern_of : ℕ → ℕ → ℕ
pattern_of plus minus = 5 * plus + minus

unfoldable pub stencil_of : ℕ → Stencil
stencil_of n =
    if leb n (pattern_of 0 4) then no_plus
    else if eqb n (pattern_of 1 1) then +-00
    else if eqb n (pattern_of 1 2) then +--0
    else if eqb n (pattern_of 1 3) then +---
    else if eqb n (pattern_of 2 1) then ++-0
    else if eqb n (pattern_of 2 2) then ++--
    else if eqb n (pattern_of 3 1) then +++-
    else plus_zero_only

-- the n-th of a list of corners, from 1 on
abbrev pub nth : List Vertex → ℕ → Vertex
nth vs n = get_or vs (n - 1) v0

-- the table, line by line; p n, m n and z n are the n-th plus, minus and zero corner, c n the n-th of the plus and then
-- the zero ones
unfoldable pub rows_of : Stencil → (p m z c : ℕ → Vertex) → List (Row (Entry Vertex))
rows_of no_plus p m z c = []
rows_of plus_zero_only p m z c = row (point (c 1)) (point (c 2)) (point (c 3)) (point (c 4)) ∷ []
rows_of +++- p m z c =
    row (point (p 1)) (point (p 2)) (point (p 3)) (cut (p 3) (m 1))
    ∷ row (point (p 1)) (point (p 2)) (cut (p 2) (m 1)) (cut (p 3) (m 1))
    ∷ row (point (p 1)) (cut (p 1) (m 1)) (cut (p 2) (m 1)) (cut (p 3) (m 1))
    ∷ []
rows_of ++-- p m z c =
    row (point (p 1)) (point (p 2)) (cut (p 2) (m 1)) (cut (p 2) (m 2))
    ∷ row (point (p 1)) (cut (p 1) (m 1)) (cut (p 1) (m 2)) (cut (p 2) (m 2))
    ∷ row (point (p 1)) (cut (p 1) (m 1)) (cut (p 2) (m 1)) (cut (p 2) (m 2))
    ∷ []
rows_of ++-0 p m z c =
    row (point (p 1)) (point (p 2)) (cut (p 2) (m 1)) (point (z 1))
    ∷ row (point (p 1)) (cut (p 1) (m 1)) (cut (p 2) (m 1)) (point (z 1))
    ∷ []
rows_of +--- p m z c = row (point (p 1)) (cut (p 1) (m 1)) (cut (p 1) (m 2)) (cut (p 1) (m 3)) ∷ []
rows_of +--0 p m z c = row (point (p 1)) (cut (p 1) (m 1)) (cut (p 1) (m 2)) (point (z 1)) ∷ []
rows_of +-00 p m z c = row (point (p 1)) (cut (p 1) (m 1)) (point (z 1)) (point (z 2)) ∷ []

-- the rows of four labels, before the last two corners of any change places
unfoldable pub rows_for : (Vertex → Label) → List (Row (Entry Vertex))
rows_for l =
    let ps = choose is_plus l in
    let ms = choose is_minus l in
    let zs = choose is_zero l in
    rows_of (stencil_of (pattern_of (length ps) (length ms))) (nth ps) (nth ms) (nth zs) (nth (ps ++ zs))
