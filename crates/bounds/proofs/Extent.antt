-- No row's six-volume is further than 2³² from 0: its corners lie in a box of 766 to a side, and 6 · 766³ is less.
-- Assumes that cut bytes are bytes, and nothing else.
--
--   rows_small   wherever the moving step may leave points and cuts
--   row_small    for an accepted block
use Prim.Native.Nat.{ℕ, ◌≤◌, ◌<◌}
use native.Mathlib.Omega.{arith}
use mathlib.Core.Path.{sym, subst}
use mathlib.Core.List.{List}
use lib.IntN.{nat_abs}
use lib.ListN.{length}
use Rattle.lattice.specs.declared.Sizes.{Sizes}
use Rattle.lattice.specs.Axis.{Axis}
use Rattle.moving.specs.declared.Label.{Label}
use Rattle.moving.specs.Moving.{state_of}
use Rattle.moving.specs.Block.{Block, Bytes, reading_of}
use Rattle.moving.proofs.Moved.{state_reached}
use Rattle.stencil.specs.Tetrahedron.{Vertex, v0, v1, v2, v3}
use Rattle.stencil.specs.Row.{Row, row, row_at}
use Rattle.stencil.specs.inner.Sign.{winds}
use Rattle.geometry.specs.Place.{Place, place_of}
use Rattle.geometry.specs.Volume.{difference, six_volume}
use Rattle.filling.specs.Check.{Accepted}
use Rattle.filling.specs.Mesh.{row_volume, mesh_of}
use Rattle.filling.specs.Demand.{nth_row}
use Rattle.filling.proofs.Fits.{accepted_fits}
use Rattle.faces.proofs.PatternLaws.{stands_at}
use Rattle.faces.proofs.Complex.{labels_of, entry_in}
use Rattle.faces.proofs.LatticeComplex.{lattice}
use Rattle.faces.proofs.Signed.{signed_rows}
use Rattle.faces.proofs.Faces.{at_of, at_valid, at_inside, at_id}
use Rattle.volumes.proofs.Sound.{Sound}
use Rattle.conformity.proofs.Bridge.{limit_reach, final_place, sound}
use Rattle.conformity.proofs.Rows.{mesh_is}
use Rattle.bounds.specs.inner.Most.{volume_most}
use Rattle.bounds.proofs.Triple.{Short, triple_within}
use Rattle.bounds.proofs.Interval.{side, Between, apart}
use Rattle.bounds.proofs.Boxed.{lowest, entry_between}

-- a row whose corners lie in one box
boxed_small : (place : ℕ → Place) (low : Axis → ℕ) (r : Row ℕ)
    → ((v : Vertex) (a : Axis) → Between (low a) (place (row_at r v) a)) → nat_abs (row_volume place r) ≤ volume_most
unfolding row_volume six_volume
boxed_small place low (row a b c d) h =
    let small = triple_within side (way b) (way c) (way d) (short v1) (short v2) (short v3) in
    omega (arith, small.size)
  where
    way : ℕ → Place
    way id = difference (place a) (place id)

    short : (v : Vertex) → Short side (way (row_at (row a b c d) v))
    short v x = apart (h v0 x) (h v x)

module _ {s : Sizes} {label : ℕ → Label} {byte : ℕ → ℕ} {place : ℕ → Place} (Q : Sound s label byte place) where
  pub rows_small : (i : ℕ) → i < length (signed_rows s label)
      → nat_abs (row_volume place (nth_row (signed_rows s label) i)) ≤ volume_most
  rows_small i l =
      let (t, r, at) = at_of s label i l in
      let L = lattice s label in
      boxed_small place (lowest t) (nth_row (signed_rows s label) i) (λ v a.
      subst (λ (id : ℕ). Between (lowest t a) (place id a)) (sym (at_id s label at v))
      (entry_between Q t (at_valid s label at) (entry_in L t r v)
      (stands_at (winds t.edge) (labels_of L t) r (at_inside s label at) v) a))

pub row_small : (band : ℕ) (b : Block) → Bytes b.cuts → Accepted band b
    → (i : ℕ) → i < length (mesh_of (reading_of band b))
    → nat_abs (row_volume (place_of b.sizes b.cuts (state_of (reading_of band b)))
    (nth_row (mesh_of (reading_of band b)) i)) ≤ volume_most
row_small band b bytes h =
    let m = reading_of band b in
    let is-sound = sound (state_of m) (accepted_fits band b h) bytes limit_reach (state_reached m) in
    subst (λ (rows : List (Row ℕ)). (i : ℕ) → i < length rows
    → nat_abs (row_volume (final_place m (state_of m)) (nth_row rows i)) ≤ volume_most)
    (sym (mesh_is is-sound)) (rows_small is-sound)
