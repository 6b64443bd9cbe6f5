-- The faces' half of demand 3, for any labels without a plus on the rim: every face of every row is shared with one
-- other row, wound the opposite way, or with none, and then its corners are cuts or points with the label zero.
-- Assumes nothing.
use Prim.Native.Nat.{ℕ, ◌≤◌, ◌<◌}
use mathlib.Core.Path.{◌≡◌, sym, ◌∙◌, ap, subst, subst₂}
use mathlib.Core.Logic.{◌⊎◌, inl, inr}
use lib.ListN.{length, length-map}
use Rattle.basics.proofs.Mapped.{map_at}
use Rattle.basics.proofs.Gather.{Found, found_member, found_in, found_lt, found_get, found_at}
use Rattle.basics.proofs.Gather.{find, found_same, found_once}
use Rattle.lattice.specs.declared.Sizes.{Sizes}
use Rattle.lattice.specs.Counts.{points}
use Rattle.moving.specs.declared.Label.{Label}
use Rattle.moving.specs.declared.Label.TheVariants.{Zero}
use Rattle.stencil.specs.Tetrahedron.{Tetrahedron, Vertex, corner_number, tetrahedra_of}
use Rattle.stencil.specs.Row.{Row, row, row_at, face_at, face_of, Opposite, Holds, map_row}
use Rattle.stencil.specs.Id.{id_of}
use Rattle.stencil.specs.inner.Sign.{winds}
use Rattle.stencil.proofs.Entries.{Ordered}
use Rattle.stencil.proofs.Valid.{Valid, ascending}
use Rattle.stencil.proofs.Listed.{listed_valid, valid_listed, listed_once}
use Rattle.filling.specs.Demand.{nth_row, FaceFits, shared, boundary}
use Rattle.faces.proofs.Windings.{row_at_map}
use Rattle.faces.proofs.Pattern.{signed_for, row_in, no_row}
use Rattle.faces.proofs.PatternLaws.{differ}
use Rattle.faces.proofs.Ascending.{entry_inj}
use Rattle.faces.proofs.Complex.{Complex, labels_of, cell_rows, entry_in, id_row, id_face, Held, Fine, two, one}
use Rattle.faces.proofs.Complex.{ordered, every_face}
use Rattle.faces.proofs.LatticeComplex.{OnSkin, lattice, lattice_fits}
use Rattle.faces.proofs.Ids.{id_inj}
use Rattle.faces.proofs.Signed.{signed_in, signed_rows, NoRim}

module _ (s : Sizes) (label : ℕ → Label) where
  -- the k-th row of the block is the r-th of the tetrahedron t
  abbrev pub RowOf : ℕ → Tetrahedron → ℕ → Type 0
  RowOf k t r = Found (signed_in s label) t r (tetrahedra_of s) k

  same_length : (t : Tetrahedron) → length (signed_in s label t) ≡ length (cell_rows (lattice s label) t)
  unfolding signed_in signed_for
  same_length t = length-map (cell_rows (lattice s label) t) (map_row (id_of s t))

  pub at_valid : {k r : ℕ} {t : Tetrahedron} → RowOf k t r → Valid s t
  at_valid {t = t} a = listed_valid s t (found_member (signed_in s label) a)

  pub at_inside : {k r : ℕ} {t : Tetrahedron} → RowOf k t r → r < length (cell_rows (lattice s label) t)
  at_inside {r = r} {t = t} a = subst (λ (n : ℕ). r < n) (same_length t) (found_in (signed_in s label) a)

  pub at_row : {k r : ℕ} {t : Tetrahedron} → RowOf k t r → nth_row (signed_rows s label) k ≡ id_row (lattice s label) t r
  unfolding signed_rows signed_in signed_for row_in
  at_row {r = r} {t = t} a =
      found_get (signed_in s label) (row 0 0 0 0) a
      ∙ map_at (map_row (id_of s t)) (cell_rows (lattice s label) t) r no_row (row 0 0 0 0) (at_inside a)

  pub at_of : (k : ℕ) → k < length (signed_rows s label) → (t : Tetrahedron) × (r : ℕ) × RowOf k t r
  unfolding signed_rows
  at_of k h = find (signed_in s label) (tetrahedra_of s) k h

  at_one : {k j r n : ℕ} {t u : Tetrahedron} → RowOf k t r → RowOf j u n → (u ≡ t) × (n ≡ r) → j ≡ k
  at_one {j = j} a b e =
      let c = subst₂ (λ (x : Tetrahedron) (m : ℕ). RowOf j x m) e.0 e.1 b in
      found_once (signed_in s label) (listed_once s) c a

  -- a row that holds a face of the k-th
  held : {k r m : ℕ} {t : Tetrahedron} (v : Vertex) → RowOf k t r → (h : m < length (signed_rows s label))
      → Holds (nth_row (signed_rows s label) m) (face_of (nth_row (signed_rows s label) k) v)
      → Held (lattice s label) (at_of m h).0 (at_of m h).1 (id_face (lattice s label) t r v)
  held {m = m} v a h p =
      let b = (at_of m h).2 in
      record {
        cell = at_valid b;
        inside = at_inside b;
        holds = subst₂ (λ (x y : Row ℕ). Holds x (face_of y v)) (at_row b) (at_row a) p;
      }

  fits_at_law : {k r : ℕ} {t : Tetrahedron} (v : Vertex) → RowOf k t r → Fine (lattice s label) t r v
      → FaceFits (signed_rows s label) (OnSkin s label) k v
  unfolding signed_rows
  fits_at_law {k = k} {r = r} {t = t} v a (two u n w hu hn ne o only) =
      shared b.0 w (found_lt (signed_in s label) b.1)
      (λ e. let p = found_same (signed_in s label) a (subst (λ (i : ℕ). RowOf i u n) (sym e) b.1) in ne p.0 p.1)
      (subst₂ (λ (x y : Row ℕ). Opposite (face_of x v) (face_of y w)) (sym (at_row a)) (sym (at_row b.1)) o)
      (λ m h p. let c = (at_of m h).2 in elim (only _ _ (held v a h p)) [
        | inl e ↦ inl (at_one a c e)
        | inr e ↦ inr (at_one b.1 c e)
      ])
    where
      b : (j : ℕ) × RowOf j u n
      b = found_at (signed_in s label) (valid_listed s u hu) (subst (λ (i : ℕ). n < i) (sym (same_length u)) hn)
  fits_at_law v a (one only on) =
      boundary (λ m h p. at_one a (at_of m h).2 (only _ _ (held v a h p)))
      (λ t. subst (λ (x : Row ℕ). OnSkin s label (face_at (face_of x v) t)) (sym (at_row a)) (on t))

-- every face of every row fits
pub faces : (s : Sizes) (label : ℕ → Label) → NoRim s label → (i : ℕ) → i < length (signed_rows s label) → (v : Vertex)
    → FaceFits (signed_rows s label) (λ id. (points s ≤ id) ⊎ ((id < points s) × (label id ≡ Zero))) i v
faces s label rim i h v =
    let a = at_of s label i h in
    fits_at_law s label v a.2
    (every_face (lattice s label) (lattice_fits s label rim) a.0 (at_valid s label a.2)
    a.1 (at_inside s label a.2) v)

-- the ids of a row are those of its tetrahedron's entries
pub at_id : (s : Sizes) (label : ℕ → Label) {i r : ℕ} {t : Tetrahedron} → RowOf s label i t r → (v : Vertex)
    → row_at (nth_row (signed_rows s label) i) v ≡ id_of s t (entry_in (lattice s label) t r v)
at_id s label {r = r} {t = t} a v =
    ap (λ (x : Row ℕ). row_at x v) (at_row s label a) ∙ row_at_map (id_of s t) (row_in (cell_rows (lattice s label) t) r) v

-- a row's four ids differ
pub ids_differ : (s : Sizes) (label : ℕ → Label) (i : ℕ) → i < length (signed_rows s label) → (v w : Vertex)
    → row_at (nth_row (signed_rows s label) i) v ≡ row_at (nth_row (signed_rows s label) i) w → v ≡ w
ids_differ s label i h v w e =
    differ (winds t.edge) (labels_of L t) a.1 inside v w
    (entry_inj (corner_number s t) (ascending s t valid)
    (id_inj s t t valid valid (entry_in L t a.1 v) (entry_in L t a.1 w) (order v) (order w) same))
  where
    L : Complex
    L = lattice s label

    a : (t : Tetrahedron) × (r : ℕ) × RowOf s label i t r
    a = at_of s label i h

    t : Tetrahedron
    t = a.0

    valid : Valid s t
    valid = at_valid s label a.2

    inside : a.1 < length (cell_rows L t)
    inside = at_inside s label a.2

    order : (v : Vertex) → Ordered (entry_in L t a.1 v)
    order v = ordered L t a.1 inside v

    same : id_of s t (entry_in L t a.1 v) ≡ id_of s t (entry_in L t a.1 w)
    same = sym (at_id s label a.2 v) ∙ e ∙ at_id s label a.2 w
