-- The rows that the code writes are the rows of crates/filling: where points and cuts stand as the moving step leaves them, the
-- winding of a tetrahedron's type and the parity of a row decide as the six-volume does. And their count depends neither on cuts
-- nor on places. Assumes nothing.
--     rows_length_law, rows_are        over any labels and places
--     mesh_length, mesh_table      when the points of a block have moved by the papers' rules
use Prim.Native.Nat.{ℕ}
use mathlib.Core.Path.{◌≡◌, refl, sym, ap, ◌∙◌}
use mathlib.Core.List.{List, [], ◌∷◌, map}
use native.Mathlib.Omega.{arith}
use lib.ListN.{length, length-append, length-map}
use Rattle.basics.specs.Lists.{gather}
use Rattle.basics.proofs.Mapped.{gather_same}
use Rattle.lattice.specs.declared.Sizes.{Sizes}
use Rattle.moving.specs.declared.Label.{Label}
use Rattle.moving.specs.Reading.{Reading, label_after}
use Rattle.moving.specs.Moving.{state_of}
use Rattle.stencil.specs.Tetrahedron.{Tetrahedron, tetrahedra_of}
use Rattle.stencil.specs.Row.{map_row}
use Rattle.stencil.specs.Stencil.{rows_for}
use Rattle.stencil.specs.Id.{id_of}
use Rattle.stencil.specs.inner.Sign.{signed, winds}
use Rattle.stencil.proofs.Valid.{Valid}
use Rattle.stencil.proofs.Listed.{listed_valid}
use Rattle.geometry.specs.Place.{Place, place_of}
use Rattle.filling.specs.Mesh.{labels_in, oriented, rows_in, rows_over, mesh_of, table}
use Rattle.volumes.proofs.Sound.{Sound}
use Rattle.volumes.proofs.Volumes.{oriented_rows}
use Rattle.emit.specs.inner.Mesh.{signed_rows, row_total, signed_table}

gather_long : {A B : Type 0} (f g : A → List B) (l : List A) → ((x : A) → length (f x) ≡ length (g x))
    → length (gather f l) ≡ length (gather g l)
unfolding gather
gather_long f g [] h = refl
gather_long f g (x ∷ l) h =
    omega (arith, length-append (f x) (gather f l), length-append (g x) (gather g l), h x, gather_long f g l h)

module _ (s : Sizes) (label : ℕ → Label) (place : ℕ → Place) where
  count_in : (t : Tetrahedron) → length (rows_in s label place t) ≡ length (signed_rows s label t)
  unfolding rows_in signed_rows
  count_in t =
      let entries = rows_for (labels_in s label t) in
      length-map (map (map_row (id_of s t)) entries) (oriented place)
      ∙ length-map entries (map_row (id_of s t))
      ∙ sym (length-map entries (signed (winds t.edge)))
      ∙ sym (length-map (map (signed (winds t.edge)) entries) (map_row (id_of s t)))

  pub rows_length_law : length (rows_over s label place) ≡ row_total s label
  unfolding rows_over row_total
  rows_length_law = gather_long (rows_in s label place) (signed_rows s label) (tetrahedra_of s) count_in

  module _ {byte : ℕ → ℕ} (Q : Sound s label byte place) where
    oriented_in : (t : Tetrahedron) → Valid s t → rows_in s label place t ≡ signed_rows s label t
    unfolding rows_in signed_rows
    oriented_in t h = oriented_rows Q t h

    pub rows_are : table (rows_over s label place) ≡ signed_table s label
    unfolding rows_over signed_table
    rows_are =
        ap table
        (gather_same (rows_in s label place) (signed_rows s label) (tetrahedra_of s) (λ t m. oriented_in t (listed_valid s t m)))

-- a block's points moved as the rules say, and the state table that says so
module _ (m : Reading) (state : List ℕ) (moved : state ≡ state_of m) where
  pub mesh_length : row_total m.sizes (label_after m.label state) ≡ length (mesh_of m)
  mesh_length =
      ap (λ (codes : List ℕ). row_total m.sizes (label_after m.label codes)) moved
      ∙ sym (rows_length_law m.sizes (label_after m.label (state_of m)) (place_of m.sizes m.cuts (state_of m)))

  pub mesh_table : {byte : ℕ → ℕ}
      → Sound m.sizes (label_after m.label (state_of m)) byte (place_of m.sizes m.cuts (state_of m))
      → signed_table m.sizes (label_after m.label state) ≡ table (mesh_of m)
  mesh_table Q =
      ap (λ (codes : List ℕ). signed_table m.sizes (label_after m.label codes)) moved
      ∙ sym (rows_are m.sizes (label_after m.label (state_of m)) (place_of m.sizes m.cuts (state_of m)) Q)
