-- F-2, "Move to the nearest cut", compared: rows by the table of document 01's choice and by today's, both by today's stencils and places. A row's
-- ids are those of its labels, and which way round its last two stand is decided by the tetrahedron alone. Assumes that cut bytes are bytes.
--
-- The old table is `state_before` (F2Theorems): with F-8's mark, so what would stand today without F-2.
--     same_rows_law        tables by which the same points have moved give the same rows
--     rows_as_before   so the row table of an accepted block is the same, by any band
use Prim.Native.Nat.{ℕ, ◌≤◌}
use mathlib.Core.Path.{◌≡◌, sym, ap, ◌∙◌}
use mathlib.Core.List.{List}
use Rattle.lattice.specs.Direction.{direction_of}
use Rattle.moving.specs.Violation.{limit}
use Rattle.moving.specs.Reading.{Reading}
use Rattle.moving.specs.Moving.{outset, state_of}
use Rattle.moving.specs.Block.{Block, Bytes, reading_of}
use Rattle.moving.proofs.Settled.{Reached}
use Rattle.moving.proofs.Moved.{state_reached}
use Rattle.filling.specs.Check.{Accepted}
use Rattle.filling.specs.Mesh.{rows_with, table}
use Rattle.filling.proofs.Fits.{Fits, accepted_fits}
use Rattle.faces.proofs.Signed.{signed_rows}
use Rattle.volumes.proofs.Sound.{reach}
use Rattle.conformity.proofs.Bridge.{limit_reach, final_label, sound}
use Rattle.conformity.proofs.Rows.{mesh_is}
use Rattle.history.proofs.F2SamePoints.{SameMoved, same_label}
use Rattle.history.proofs.F2Theorems.{state_before, same_points, before_reached}

module _ (m : Reading) (fits : Fits m) (bytes : Bytes m.cuts) (small : (c : ℕ) → limit m.rule (direction_of c) ≤ reach c) where
  -- the rows by the labels alone
  by_labels : {codes : List ℕ} → Reached m (outset m) codes → rows_with m codes ≡ signed_rows m.sizes (final_label m codes)
  by_labels {codes} r = mesh_is (sound codes fits bytes small r)

  pub same_rows_law : {s t : List ℕ} → Reached m (outset m) s → Reached m (outset m) t → SameMoved s t → rows_with m s ≡ rows_with m t
  same_rows_law {s} {t} r u h =
      let labels : final_label m s ≡ final_label m t = λ i p. same_label m h p i in
      by_labels r ∙ ap (signed_rows m.sizes) labels ∙ sym (by_labels u)

pub rows_as_before : (band : ℕ) (b : Block) → Bytes b.cuts → Accepted band b
    → table (rows_with (reading_of band b) (state_before (reading_of band b)))
    ≡ table (rows_with (reading_of band b) (state_of (reading_of band b)))
rows_as_before band b bytes h =
    let m = reading_of band b in
    ap table (same_rows_law m (accepted_fits band b h) bytes limit_reach (before_reached m) (state_reached m) (same_points m))
