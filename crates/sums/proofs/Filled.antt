-- The rows and tables that filling leaves are such that their six-volumes can be added up: the calls agree on every corner, each volume is
-- above zero (demand 3), and none is large. Assumes that cut bytes are bytes, and nothing else.
use Prim.Native.Nat.{ℕ, ◌<◌, ◌≤◌}
use native.Mathlib.Omega.{arith}
use mathlib.Core.Path.{◌≡◌, refl, sym, subst}
use mathlib.Core.Logic.{inl}
use mathlib.Core.List.{List}
use lib.IntN.{pos, nat_abs}
use lib.Signed.{◌<ℤ◌}
use lib.ListN.{length, length-append}
use Rattle.moving.specs.Moving.{state_of}
use Rattle.moving.specs.Block.{Block, Bytes, reading_of}
use Rattle.stencil.specs.Tetrahedron.{Vertex}
use Rattle.stencil.specs.Row.{Row, row, row_at}
use Rattle.geometry.specs.Place.{place_of}
use Rattle.filling.specs.Mesh.{row_volume, mesh_of}
use Rattle.filling.specs.Fill.{fill}
use Rattle.filling.specs.Demand.{nth_row}
use Rattle.filling.proofs.Accepted.{Passed, passed_all}
use Rattle.filling.proofs.Written.{table_length, rows_counted, state_written, rows_written, row_written}
use Rattle.volumes.proofs.Volumes.{get_d_member}
use Rattle.conformity.proofs.Demand3.{demand_3}
use Rattle.bounds.proofs.Extent.{row_small}
use Rattle.agree.proofs.Rows.{accepted_agrees}
use Rattle.bounds.specs.inner.Most.{volume_most}
use Rattle.sums.specs.inner.Measured.{count_most, Standing, Measured}

module _ (band : ℕ) (b : Block) (state rows : List ℕ) (bytes : Bytes b.cuts) (e : (fill band b state rows).answer.number ≡ 0) where
  abbrev mesh : List (Row ℕ)
  mesh = mesh_of (reading_of band b)

  abbrev codes : List ℕ
  codes = state_of (reading_of band b)

  passed : Passed band b state rows
  passed = passed_all band b state rows 0 (inl refl) e

  -- of the i-th row, as it stands in the definition
  module _ (i : ℕ) (h : i < length mesh) where
    stands : (v : Vertex) → Standing b.sizes b.cuts codes (row_at (nth_row mesh i) v)
    stands v =
        record {
          bytes = bytes;
          answered = accepted_agrees band b passed.accepted (nth_row mesh i) (get_d_member mesh i (row 0 0 0 0) h) v;
        }

    above : pos 0 <ℤ row_volume (place_of b.sizes b.cuts codes) (nth_row mesh i)
    above = (demand_3 band b state rows bytes e).volumes i h

    few : nat_abs (row_volume (place_of b.sizes b.cuts codes) (nth_row mesh i)) ≤ volume_most
    few = row_small band b bytes passed.accepted i h

  held : length mesh < count_most → Measured b.sizes b.cuts codes (fill band b state rows).rows (length mesh)
  held most =
      record {
        room = rw (rows_written band b state rows e) (simp length-append (omega (arith, table_length mesh)));
        few = most;
        standing = λ i h v.
            subst (λ (r : Row ℕ). Standing b.sizes b.cuts codes (row_at r v)) (sym (row_written band b state rows e i h)) (stands i h v);
        positive = λ i h. rw (row_written band b state rows e i h) (above i h);
        small = λ i h. rw (row_written band b state rows e i h) (few i h);
      }

  pub filled_measured : (fill band b state rows).answer.rows < count_most
      → Measured b.sizes b.cuts (fill band b state rows).state (fill band b state rows).rows (fill band b state rows).answer.rows
  filled_measured =
      rw (
        state_written band b state rows passed.accepted passed.state_long,
        rows_counted band b state rows passed.accepted passed.state_long,
      )
      held
