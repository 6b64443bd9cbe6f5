-- Demand 3: of all rows of a filling together, each face belongs to exactly two rows, which wind it opposite ways, or to exactly one,
-- and then its three corners lie on the skin; and each row's volume, with points moved, is above zero.
-- Assumes that cut bytes are bytes, and nothing else.
use Prim.Native.Nat.{ℕ, ◌≤◌, ◌<◌}
use native.Mathlib.Omega.{arith}
use mathlib.Core.Path.{◌≡◌, refl, sym, subst}
use mathlib.Core.Logic.{◌⊎◌, inl, inr}
use mathlib.Core.List.{List}
use Rattle.lattice.specs.Counts.{points}
use Rattle.lattice.specs.Direction.{direction_of}
use Rattle.moving.specs.declared.Label.TheVariants.{Zero}
use Rattle.moving.specs.Violation.{limit}
use Rattle.moving.specs.Reading.{Reading}
use Rattle.moving.specs.Moving.{state_of}
use Rattle.moving.specs.Block.{Block, Bytes, reading_of}
use Rattle.moving.proofs.Moved.{state_reached, reached_zero}
use Rattle.stencil.specs.Tetrahedron.{Vertex}
use Rattle.stencil.specs.Row.{Row, Third, face_at, face_of}
use Rattle.geometry.specs.Place.{place_of}
use Rattle.filling.specs.Check.{Accepted}
use Rattle.filling.specs.Mesh.{mesh_of}
use Rattle.filling.specs.Fill.{fill}
use Rattle.filling.specs.Demand.{
  nth_row,
  rows_read,
  FaceFits,
  shared,
  boundary,
  Conforms,
  OnSkin,
  a_cut,
  a_moved_point,
  a_zero_label,
}
use Rattle.filling.proofs.Accepted.{passed_all, filled_accepted}
use Rattle.filling.proofs.Fits.{Fits, accepted_fits}
use Rattle.filling.proofs.Written.{rows_read_law, state_written}
use Rattle.faces.proofs.Faces.{faces}
use Rattle.faces.proofs.RowIds.{RowId, a_point, an_edge, face_ids}
use Rattle.volumes.proofs.Sound.{reach}
use Rattle.conformity.proofs.Bridge.{limit_reach, final_label, final_place, edge_byte_law, sound, no_rim}
use Rattle.conformity.proofs.Rows.{mesh_is, rows_positive}

-- what the corners of a boundary face lie on, in other words
widened : {rows : List (Row ℕ)} {S S' : ℕ → Type 0} {i : ℕ} {v : Vertex}
    → ((t : Third) → S (face_at (face_of (nth_row rows i) v) t) → S' (face_at (face_of (nth_row rows i) v) t))
    → FaceFits rows S i v → FaceFits rows S' i v
widened h (shared j w l n o u) = shared j w l n o u
widened h (boundary u k) = boundary u (λ t. h t (k t))

module _ (m : Reading) (fits : Fits m) where
  -- an id in a row that is a cut's or has the label zero lies on the skin
  on_skin : (id : ℕ) → RowId m.sizes (final_label m (state_of m)) id
      → (points m.sizes ≤ id) ⊎ ((id < points m.sizes) × (final_label m (state_of m) id ≡ Zero)) → OnSkin m id
  on_skin id r (inr z) =
      elim (reached_zero m (state_reached m) id z.0 z.1) [ inl n ↦ a_moved_point z.0 n | inr e ↦ a_zero_label z.0 e ]
  on_skin id (a_point l n) (inl c) = absurd (omega arith)
  on_skin id (an_edge p d q l u to o e) (inl c) = a_cut p d q l u to (λ z. omega (arith, edge_byte_law (state_of m) fits p d q l u to o)) e

  -- limits of 63 and 127 are small enough
  pub conforms : Bytes m.cuts → ((c : ℕ) → limit m.rule (direction_of c) ≤ reach c)
      → Conforms (mesh_of m) (place_of m.sizes m.cuts (state_of m)) (OnSkin m)
  conforms bytes small =
      let label = final_label m (state_of m) in
      let is-sound = sound (state_of m) fits bytes small (state_reached m) in
      subst (λ (rows : List (Row ℕ)). Conforms rows (final_place m (state_of m)) (OnSkin m)) (sym (mesh_is is-sound))
      (record {
        faces = λ i l v.
            widened (λ t. on_skin _ (face_ids m.sizes label i l v t)) (faces m.sizes label (no_rim (state_of m) fits) i l v);
        volumes = rows_positive is-sound;
      })

pub accepted_conforms : (band : ℕ) (b : Block) → Bytes b.cuts → Accepted band b
    → Conforms (mesh_of (reading_of band b)) (place_of b.sizes b.cuts (state_of (reading_of band b))) (OnSkin (reading_of band b))
accepted_conforms band b bytes h = conforms (reading_of band b) (accepted_fits band b h) bytes limit_reach

pub demand_3 : (band : ℕ) (b : Block) (state rows : List ℕ) → Bytes b.cuts → (fill band b state rows).answer.number ≡ 0
    → Conforms (mesh_of (reading_of band b)) (place_of b.sizes b.cuts (state_of (reading_of band b))) (OnSkin (reading_of band b))
demand_3 band b state rows bytes e = accepted_conforms band b bytes (filled_accepted band b state rows e)

-- the same of the rows as filling leaves them in the row table, T of them, with the points placed by the state table that it leaves
pub demand_3_written : (band : ℕ) (b : Block) (state rows : List ℕ) → Bytes b.cuts → (fill band b state rows).answer.number ≡ 0
    → Conforms (rows_read (fill band b state rows).rows (fill band b state rows).answer.rows)
    (place_of b.sizes b.cuts (fill band b state rows).state) (OnSkin (reading_of band b))
demand_3_written band b state rows bytes e =
    let p = passed_all band b state rows 0 (inl refl) e in
    rw (rows_read_law band b state rows e, state_written band b state rows p.accepted p.state_long) (demand_3 band b state rows bytes e)
