-- The rows of four labels with their winding are the lines of the table over the corners in order, all 81 patterns computed; and the order
-- names each corner once. Assumes nothing.
use Prim.Native.Nat.{ℕ}
use mathlib.Core.Path.{◌≡◌, refl, ap, ◌∙◌}
use mathlib.Core.Bool.{Bool, true, false, not, beq}
use mathlib.Core.List.{List, [], ◌∷◌, map}
use lib.Dec.{T, eqb}
use lib.ListN.{get_or}
use Rattle.std.specs.Prelude.{if◌then◌else◌}
use Rattle.basics.proofs.Test.{◌&◌, and_l, and_r}
use Rattle.basics.proofs.Finite.{each, each_use}
use Rattle.basics.proofs.Tested.{the_bools}
use Rattle.moving.specs.declared.Label.{Label}
use Rattle.moving.specs.Label.{is_plus, is_minus, is_zero}
use Rattle.moving.proofs.Labels.{the_labels}
use Rattle.stencil.specs.Tetrahedron.{Vertex, v0, v1, v2, v3}
use Rattle.stencil.specs.Row.{Row, row, swapped}
use Rattle.stencil.specs.Stencil.{Entry, rank, point, cut, choose, stencil_of, rows_of, rows_for}
use Rattle.stencil.proofs.Entries.{same_entry, same_entry_use}
use Rattle.stencil.specs.inner.Sign.{newcomer, order, even_first, even, signed}
use Rattle.rows.specs.inner.Corners.{vertex_at}
use Rattle.rows.specs.inner.Picks.{weight, sum, picked, chosen, ordered, inversion, is_even}
use Rattle.rows.specs.inner.Stencils.{lines, lines_by}

abbrev pub four : Label → Label → Label → Label → Vertex → Label
four a b c d v0 = a
four a b c d v1 = b
four a b c d v2 = c
four a b c d v3 = d

abbrev pub listed : (Vertex → Label) → List Label
listed l = l v0 ∷ l v1 ∷ l v2 ∷ l v3 ∷ []

-- the table over the entries of document 01's rows
abbrev pub entry_lines : (Vertex → Label) → Bool → List (Row (Entry Vertex))
entry_lines l s =
    let w = listed l in
    lines (λ v. point (vertex_at v)) (λ u v. cut (vertex_at u) (vertex_at v)) (λ k a b c d. if k then row a b c d else swapped (row a b c d))
    (stencil_of (sum w)) (ordered w) (beq s (is_even w))

-- equality of rows of entries, as a test
unfoldable same_row : Row (Entry Vertex) → Row (Entry Vertex) → Bool
same_row (row a b c d) (row e f g h) = same_entry a e & (same_entry b f & (same_entry c g & same_entry d h))

unfoldable same_rows : List (Row (Entry Vertex)) → List (Row (Entry Vertex)) → Bool
same_rows [] [] = true
same_rows [] (r ∷ l) = false
same_rows (r ∷ l) [] = false
same_rows (r ∷ l) (q ∷ m) = same_row r q & same_rows l m

row_use : (a b : Row (Entry Vertex)) → T (same_row a b) → a ≡ b
unfolding same_row
row_use (row a b c d) (row e f g h) t =
    let u = and_r (same_entry a e) _ t in
    let w = and_r (same_entry b f) _ u in
    λ i. row (same_entry_use a e (and_l _ _ t) i) (same_entry_use b f (and_l _ _ u) i) (same_entry_use c g (and_l _ _ w) i)
    (same_entry_use d h (and_r (same_entry c g) _ w) i)

rows_use : (l m : List (Row (Entry Vertex))) → T (same_rows l m) → l ≡ m
unfolding same_rows
rows_use [] [] t = refl
rows_use [] (r ∷ m) t = absurd t
rows_use (r ∷ l) [] t = absurd t
rows_use (r ∷ l) (q ∷ m) t = λ i. row_use r q (and_l _ _ t) i ∷ rows_use l m (and_r (same_row r q) _ t) i

-- no corner twice
unfoldable apart : ℕ → ℕ → Bool
apart u v = not (eqb (rank (vertex_at u)) (rank (vertex_at v)))

unfoldable all_apart : List ℕ → Bool
all_apart o =
    apart (get_or o 0 0) (get_or o 1 0)
    & (apart (get_or o 0 0) (get_or o 2 0)
    & (apart (get_or o 0 0) (get_or o 3 0)
    & (apart (get_or o 1 0) (get_or o 2 0)
    & (apart (get_or o 1 0) (get_or o 3 0) & apart (get_or o 2 0) (get_or o 3 0)))))

unfoldable right : Label → Label → Label → Label → Bool → Bool
right a b c d s =
    all_apart (ordered (listed (four a b c d)))
    & same_rows (map (signed s) (rows_for (four a b c d))) (entry_lines (four a b c d) s)

ok : T (each the_labels (λ a. each the_labels (λ b. each the_labels (λ c. each the_labels (λ d. each the_bools (right a b c d))))))
unfolding ◌&◌ right all_apart apart same_rows same_row same_entry lines_by cut choose is_plus is_minus is_zero stencil_of rows_of rows_for
    newcomer order even_first even signed weight sum picked chosen ordered inversion is_even
ok = tt

one : (a b c d : Label) (s : Bool) → T (right a b c d s)
one a b c d s =
    let t = each_use the_labels (λ a. each the_labels (λ b. each the_labels (λ c. each the_labels (λ d. each the_bools (right a b c d))))) ok a in
    let u = each_use the_labels (λ b. each the_labels (λ c. each the_labels (λ d. each the_bools (right a b c d)))) t b in
    let v = each_use the_labels (λ c. each the_labels (λ d. each the_bools (right a b c d))) u c in
    let w = each_use the_labels (λ d. each the_bools (right a b c d)) v d in
    each_use the_bools (right a b c d) w s

-- four labels are all that rows depend on
same_rows_law : (l : Vertex → Label) → rows_for l ≡ rows_for (four (l v0) (l v1) (l v2) (l v3))
unfolding rows_for choose
same_rows_law l = refl

pub lines_are : (l : Vertex → Label) (s : Bool) → map (signed s) (rows_for l) ≡ entry_lines l s
unfolding right
lines_are l s =
    ap (map (signed s)) (same_rows_law l)
    ∙ rows_use (map (signed s) (rows_for (four (l v0) (l v1) (l v2) (l v3)))) (entry_lines (four (l v0) (l v1) (l v2) (l v3)) s)
    (and_r (all_apart (ordered (listed (four (l v0) (l v1) (l v2) (l v3))))) _ (one (l v0) (l v1) (l v2) (l v3) s))

-- the order names four corners
pub record Apart (o : List ℕ) : Type 0 where
  pub 1-2 : T (not (eqb (rank (vertex_at (get_or o 0 0))) (rank (vertex_at (get_or o 1 0)))))
  pub 1-3 : T (not (eqb (rank (vertex_at (get_or o 0 0))) (rank (vertex_at (get_or o 2 0)))))
  pub 1-4 : T (not (eqb (rank (vertex_at (get_or o 0 0))) (rank (vertex_at (get_or o 3 0)))))
  pub 2-3 : T (not (eqb (rank (vertex_at (get_or o 1 0))) (rank (vertex_at (get_or o 2 0)))))
  pub 2-4 : T (not (eqb (rank (vertex_at (get_or o 1 0))) (rank (vertex_at (get_or o 3 0)))))
  pub 3-4 : T (not (eqb (rank (vertex_at (get_or o 2 0))) (rank (vertex_at (get_or o 3 0)))))

apart_use : (o : List ℕ) → T (all_apart o) → Apart o
unfolding all_apart apart
apart_use o t =
    let u = and_r (apart (get_or o 0 0) (get_or o 1 0)) _ t in
    let v = and_r (apart (get_or o 0 0) (get_or o 2 0)) _ u in
    let w = and_r (apart (get_or o 0 0) (get_or o 3 0)) _ v in
    let x = and_r (apart (get_or o 1 0) (get_or o 2 0)) _ w in
    record {
      1-2 = and_l _ _ t;
      1-3 = and_l _ _ u;
      1-4 = and_l _ _ v;
      2-3 = and_l _ _ w;
      2-4 = and_l _ _ x;
      3-4 = and_r (apart (get_or o 1 0) (get_or o 3 0)) _ x;
    }

pub ordered_apart : (l : Vertex → Label) → Apart (ordered (listed l))
unfolding right
ordered_apart l = apart_use (ordered (listed l)) (and_l _ _ (one (l v0) (l v1) (l v2) (l v3) true))
