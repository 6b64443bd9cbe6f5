-- What the ids in rows are: a lattice point that is not minus, or the cut of an edge of the block between a plus and a
-- minus point. Assumes nothing.
use Prim.Native.Nat.{ℕ, ◌+◌, ◌<◌}
use native.Mathlib.Omega.{arith}
use mathlib.Core.Path.{◌≡◌, refl, sym, ◌∙◌, subst}
use mathlib.Core.Bool.{not}
use lib.Dec.{T, ltb→lt}
use lib.ListN.{length}
use Rattle.std.proofs.Common.{Some}
use Rattle.basics.proofs.Test.{and_l, and_r}
use Rattle.lattice.specs.declared.Sizes.{Sizes}
use Rattle.lattice.specs.Counts.{points}
use Rattle.lattice.specs.Direction.{Code}
use Rattle.lattice.specs.Edge.{neighbour}
use Rattle.lattice.proofs.Codes.{start_step}
use Rattle.lattice.proofs.Edge.{leads_near, near_number}
use Rattle.moving.specs.declared.Label.{Label}
use Rattle.moving.specs.declared.Label.TheVariants.{Minus}
use Rattle.moving.specs.Label.{is_minus, opposed}
use Rattle.stencil.specs.Tetrahedron.{Tetrahedron, Vertex, kind, corner, corner_number}
use Rattle.stencil.specs.Row.{Third, row_at, face_at, face_of}
use Rattle.stencil.specs.Stencil.{Entry, point, between, rank}
use Rattle.stencil.specs.Id.{cut_id, id_of}
use Rattle.stencil.specs.inner.Sign.{winds}
use Rattle.stencil.proofs.Entries.{stands}
use Rattle.stencil.proofs.Edges.{start, finish, way, way_lt, edge_leads, opposed_along}
use Rattle.stencil.proofs.Valid.{Valid, corner_inside}
use Rattle.filling.specs.Demand.{nth_row}
use Rattle.faces.proofs.Windings.{holds_own}
use Rattle.faces.proofs.PatternLaws.{stands_at}
use Rattle.faces.proofs.Complex.{labels_of, entry_in}
use Rattle.faces.proofs.LatticeComplex.{lattice}
use Rattle.faces.proofs.Ids.{point_low}
use Rattle.faces.proofs.Signed.{signed_rows}
use Rattle.faces.proofs.Faces.{at_of, at_valid, at_inside, at_id}

-- what an id in a row may be
pub data RowId (s : Sizes) (label : ℕ → Label) (id : ℕ) : Type 0 where
  a_point : id < points s → (label id ≡ Minus → ⊥) → RowId s label id
  an_edge : (p d q : ℕ) → p < points s → d < 7 → neighbour s p (d + 1) ≡ Some q → T (opposed (label p) (label q))
      → id ≡ cut_id s p d → RowId s label id

-- the edge between two corners of a tetrahedron exists
edge_near : (s : Sizes) (t : Tetrahedron) → Valid s t → (u v : Vertex) → rank u < rank v
    → neighbour s (corner_number s t (start t u v)) (way t u v + 1) ≡ Some (corner_number s t (finish t u v))
unfolding corner_number
edge_near s t h u v low =
    let p = start t u v in
    let q = finish t u v in
    let d = way t u v in
    let code : Code (d + 1) = record { low = omega arith; high = omega (arith, way_lt t u v low) } in
    near_number s (kind p) (corner t p) (corner_inside s t h p) (d + 1)
    ∙ leads_near s (kind p) (corner t p) (d + 1) (kind q) (corner t q)
    (corner_inside s t h p) (corner_inside s t h q) code
    (λ a. rw (start_step d (way_lt t u v low) a) (edge_leads t u v low a))

-- the id of an entry that stands as entries of rows do
entry_id : (s : Sizes) (label : ℕ → Label) (t : Tetrahedron) → Valid s t → (x : Entry Vertex)
    → T (stands (λ v. label (corner_number s t v)) x) → RowId s label (id_of s t x)
unfolding id_of stands is_minus
entry_id s label t h (point v) k =
    a_point (point_low s t h v) (λ m. subst (λ (n : Label). T (not (is_minus n))) m k)
entry_id s label t h (between u v) k =
    let low = ltb→lt _ _ (and_l _ _ k) in
    let n = corner_number s t in
    an_edge (n (start t u v)) (way t u v) (n (finish t u v)) (point_low s t h (start t u v)) (way_lt t u v low)
    (edge_near s t h u v low) (opposed_along (λ v. label (n v)) t u v (and_r _ _ k)) refl

pub row_ids_law : (s : Sizes) (label : ℕ → Label) (i : ℕ) → i < length (signed_rows s label) → (v : Vertex)
    → RowId s label (row_at (nth_row (signed_rows s label) i) v)
row_ids_law s label i h v =
    let a = at_of s label i h in
    let t = a.0 in
    let L = lattice s label in
    subst (RowId s label) (sym (at_id s label a.2 v))
    (entry_id s label t (at_valid s label a.2) (entry_in L t a.1 v)
    (stands_at (winds t.edge) (labels_of L t) a.1 (at_inside s label a.2) v))

-- the ids of a row's faces are its own
pub face_ids : (s : Sizes) (label : ℕ → Label) (i : ℕ) → i < length (signed_rows s label) → (v : Vertex) (t : Third)
    → RowId s label (face_at (face_of (nth_row (signed_rows s label) i) v) t)
face_ids s label i h v t =
    let o = holds_own (nth_row (signed_rows s label) i) v t in
    subst (RowId s label) o.1 (row_ids_law s label i h o.0)
