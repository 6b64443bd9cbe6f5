-- The table of patterns and rows over the corners that the code holds, and the ids that are written.
use Rattle.std.specs.Prelude.{ℕ, ◌*◌, ◌<◌, Bool, not, List, [], ◌∷◌, get_or, if◌then◌else◌}
use Rattle.std.specs.Bool.{beq}
use Rattle.basics.specs.Lists.{gather}
use Rattle.lattice.specs.Counts.{largest}
use Rattle.moving.specs.declared.Label.{Label}
use Rattle.moving.specs.declared.Label.TheVariants.{Plus}
use Rattle.stencil.specs.Stencil.{Stencil, no_plus, plus_zero_only, +++-, ++--, ++-0, +---, +--0, +-00, stencil_of}
use Rattle.rows.specs.declared.Tetra.{Tetra}
use Rattle.rows.specs.inner.Corners.{point_id, cut_id}
use Rattle.rows.specs.inner.Picks.{sum, ordered, is_even}

-- an order of the four corners
pub record InOrder (o : List ℕ) : Type 0 where
  pub first_in : get_or o 0 0 < 4
  pub second_in : get_or o 1 0 < 4
  pub third_in : get_or o 2 0 < 4
  pub fourth_in : get_or o 3 0 < 4

-- document 01's table over any kind of corners: o holds the plus, the minus and the zero corners. Where the order winds as it should
-- (true), so do the rows that bring in its corners in that order, and the others wind the other way round
module _ {A B : Type 0} (point : ℕ → A) (cut : ℕ → ℕ → A) (row : Bool → A → A → A → A → B) where
  unfoldable pub lines_by : Stencil → ℕ → ℕ → ℕ → ℕ → Bool → List B
  lines_by no_plus a b c d k = []
  lines_by plus_zero_only a b c d k = row k (point a) (point b) (point c) (point d) ∷ []
  lines_by +++- a b c d k =
      row k (point a) (point b) (point c) (cut c d)
      ∷ row (not k) (point a) (point b) (cut b d) (cut c d)
      ∷ row k (point a) (cut a d) (cut b d) (cut c d)
      ∷ []
  lines_by ++-- a b c d k =
      row k (point a) (point b) (cut b c) (cut b d)
      ∷ row k (point a) (cut a c) (cut a d) (cut b d)
      ∷ row (not k) (point a) (cut a c) (cut b c) (cut b d)
      ∷ []
  lines_by ++-0 a b c d k =
      row k (point a) (point b) (cut b c) (point d)
      ∷ row (not k) (point a) (cut a c) (cut b c) (point d)
      ∷ []
  lines_by +--- a b c d k = row k (point a) (cut a b) (cut a c) (cut a d) ∷ []
  lines_by +--0 a b c d k = row k (point a) (cut a b) (cut a c) (point d) ∷ []
  lines_by +-00 a b c d k = row k (point a) (cut a b) (point c) (point d) ∷ []

  abbrev pub lines : Stencil → List ℕ → Bool → List B
  lines st o k = lines_by st (get_or o 0 0) (get_or o 1 0) (get_or o 2 0) (get_or o 3 0) k

-- the ids of a row as they are, or with the last two exchanged
unfoldable pub turned : Bool → List ℕ → List ℕ
turned keep r =
    let a = get_or r 0 0 in
    let b = get_or r 1 0 in
    let c = get_or r 2 0 in
    let d = get_or r 3 0 in
    if keep then a ∷ b ∷ c ∷ d ∷ [] else a ∷ b ∷ d ∷ c ∷ []

abbrev pub turned_row : Bool → ℕ → ℕ → ℕ → ℕ → List ℕ
turned_row keep a b c d = turned keep (a ∷ b ∷ c ∷ d ∷ [])

-- what is written for a stencil
unfoldable pub stencil_ids : Tetra → List ℕ → Bool → Stencil → List ℕ
stencil_ids t o keep st = gather (λ r. r) (lines (point_id t) (cut_id t) turned_row st o keep)

-- how many rows a stencil has
unfoldable pub row_count : Stencil → ℕ
row_count no_plus = 0
row_count plus_zero_only = 1
row_count +++- = 3
row_count ++-- = 3
row_count ++-0 = 2
row_count +--- = 1
row_count +--0 = 1
row_count +-00 = 1

-- what is written for a tetrahedron whose corners wind positively, ascending (true), or do not, by its labels
unfoldable pub tetra_ids : Bool → Tetra → List Label → List ℕ
tetra_ids wound t l = stencil_ids t (ordered l) (beq wound (is_even l)) (stencil_of (sum l))

-- four plus corners
abbrev pub solid : List Label
solid = Plus ∷ Plus ∷ Plus ∷ Plus ∷ []

-- no tetrahedron has more numbers in its rows: three rows of four
abbrev pub tetra_most : ℕ
tetra_most = 3 * 4

-- and no block: 3 axes, and for each as many cubes as there are, of 4 tetrahedra
abbrev pub rows_most : ℕ
rows_most = 3 * (largest * (largest * (largest * (4 * tetra_most))))
