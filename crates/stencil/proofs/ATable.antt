-- Document 01's table of patterns and rows, written from its words and computed. Assumes nothing. (Files are checked in the order of
-- their names: so a wrong definition is refused by what it gives here.)
--     table_so     a line of the table each: the rows, and their order
--     orders_so    "each ascending in number", whichever corners have the labels
use mathlib.Core.Path.{◌≡◌, refl}
use mathlib.Core.List.{List, [], ◌∷◌, map}
use Rattle.moving.specs.declared.Label.{Label}
use Rattle.moving.specs.declared.Label.TheVariants.{Plus, Minus, Zero}
use Rattle.moving.specs.Label.{is_plus, is_minus, is_zero}
use Rattle.stencil.specs.Tetrahedron.{Vertex, v0, v1, v2, v3}
use Rattle.stencil.specs.Row.{Row, row}
use Rattle.stencil.specs.Stencil.{Entry, point, between, cut, choose, stencil_of, rows_of, rows_for}

abbrev pub Rows : Type 0
Rows = List (Row (Entry Vertex))

-- the labels of the four corners, and their rows
pub record Line : Type 0 where
  pub labels : Vertex → Label
  pub rows : Rows

abbrev pub on : Label → Label → Label → Label → Vertex → Label
on a b c d v0 = a
on a b c d v1 = b
on a b c d v2 = c
on a b c d v3 = d

abbrev pub line : (Vertex → Label) → Rows → Line
line l rows = record { labels = l; rows = rows }

abbrev pub asked : Line → Rows
asked l = rows_for l.labels

-- the labels as the table has them, so that p1 is the corner 0
unfoldable pub table : List Line
table =
    -- no plus: none, four zeros included
    line (on Minus Minus Minus Minus) []
    ∷ line (on Minus Minus Zero Zero) []
    ∷ line (on Zero Zero Zero Zero) []
    -- plus and zero only: the four corners: p's, then z's
    ∷ line (on Plus Plus Plus Plus) (row (point v0) (point v1) (point v2) (point v3) ∷ [])
    ∷ line (on Plus Plus Plus Zero) (row (point v0) (point v1) (point v2) (point v3) ∷ [])
    ∷ line (on Plus Plus Zero Zero) (row (point v0) (point v1) (point v2) (point v3) ∷ [])
    ∷ line (on Plus Zero Zero Zero) (row (point v0) (point v1) (point v2) (point v3) ∷ [])
    -- +++-: p1 p2 p3 p3m1; p1 p2 p2m1 p3m1; p1 p1m1 p2m1 p3m1
    ∷ line (on Plus Plus Plus Minus)
    (row (point v0) (point v1) (point v2) (between v2 v3)
    ∷ row (point v0) (point v1) (between v1 v3) (between v2 v3)
    ∷ row (point v0) (between v0 v3) (between v1 v3) (between v2 v3)
    ∷ [])
    -- ++--: p1 p2 p2m1 p2m2; p1 p1m1 p1m2 p2m2; p1 p1m1 p2m1 p2m2
    ∷ line (on Plus Plus Minus Minus)
    (row (point v0) (point v1) (between v1 v2) (between v1 v3)
    ∷ row (point v0) (between v0 v2) (between v0 v3) (between v1 v3)
    ∷ row (point v0) (between v0 v2) (between v1 v2) (between v1 v3)
    ∷ [])
    -- ++-0: p1 p2 p2m1 z1; p1 p1m1 p2m1 z1
    ∷ line (on Plus Plus Minus Zero)
    (row (point v0) (point v1) (between v1 v2) (point v3) ∷ row (point v0) (between v0 v2) (between v1 v2) (point v3) ∷ [])
    -- +---: p1 p1m1 p1m2 p1m3
    ∷ line (on Plus Minus Minus Minus) (row (point v0) (between v0 v1) (between v0 v2) (between v0 v3) ∷ [])
    -- +--0: p1 p1m1 p1m2 z1
    ∷ line (on Plus Minus Minus Zero) (row (point v0) (between v0 v1) (between v0 v2) (point v3) ∷ [])
    -- +-00: p1 p1m1 z1 z2
    ∷ line (on Plus Minus Zero Zero) (row (point v0) (between v0 v1) (point v2) (point v3) ∷ [])
    ∷ []

pub table_so : map asked table ≡ map (λ l. l.rows) table
unfolding cut choose stencil_of rows_of rows_for is_plus is_minus is_zero table
table_so = refl

-- p1 and p2 are the corners 1 and 3, m1 and m2 0 and 2; p1 is 3, m1 is 1, z1 and z2 are 0 and 2
unfoldable pub orders : List Line
orders =
    line (on Minus Plus Minus Plus)
    (row (point v1) (point v3) (between v0 v3) (between v2 v3)
    ∷ row (point v1) (between v0 v1) (between v1 v2) (between v2 v3)
    ∷ row (point v1) (between v0 v1) (between v0 v3) (between v2 v3)
    ∷ [])
    ∷ line (on Zero Minus Zero Plus) (row (point v3) (between v1 v3) (point v0) (point v2) ∷ [])
    ∷ line (on Zero Plus Zero Plus) (row (point v1) (point v3) (point v0) (point v2) ∷ [])
    ∷ []

pub orders_so : map asked orders ≡ map (λ l. l.rows) orders
unfolding cut choose stencil_of rows_of rows_for is_plus is_minus is_zero orders
orders_so = refl
