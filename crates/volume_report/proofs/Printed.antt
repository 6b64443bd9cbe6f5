-- What the report prints of an accepted block is the volume inside its skin. Assumes that the input's bytes are bytes.
--     entry_accepted    an entry without a refusal is that of a file that was read and of a block that was filled
--     printed_volume    the sum that is printed is that of the triple products of the faces in one row only
use Prim.Native.Nat.{ℕ, ◌*◌}
use mathlib.Core.Path.{◌≡◌, refl, ◌∙◌}
use mathlib.Core.Bool.{Bool, true, false, not}
use mathlib.Core.List.{List}
use lib.IntN.{pos}
use lib.ListN.{take}
use lib.Dec.{eqb}
use borrow.Author.Tests.{eq-eqb, eqb-true}
use Rattle.std.specs.Prelude.{if◌then◌else◌}
use Rattle.basics.proofs.Test.{false_F, true_T}
use Rattle.lattice.specs.Counts.{points}
use Rattle.moving.specs.Block.{Bytes}
use Rattle.stencil.specs.Row.{Row}
use Rattle.geometry.specs.Place.{Place, place_of}
use Rattle.filling.specs.Demand.{rows_read}
use Rattle.boundary.specs.Sum.{sum}
use Rattle.boundary.specs.Boundary.{boundary_faces, face_volume}
use Rattle.sums.proofs.Total.{total_above}
use Rattle.blockfile.specs.Format as file
use Rattle.blockfile.proofs.CutBytes.{bytes_zeros, read_bytes}
use Rattle.fill_file.specs.program.Summary.{bench_limit, bench_cuts}
use Rattle.volume_report.specs.program.Report.{Entry, opened, filled, measured, refusal, entry_from, entry_of}
use Rattle.volume_report.proofs.Opening.{opens, filled_ready, filled_encloses}

-- the rows of the block in a file, and the places of their corners
abbrev pub mesh_in : List ℕ → List (Row ℕ)
mesh_in bytes = let f = filled (opened bytes) in rows_read f.rows f.answer.emitted

abbrev pub place_in : List ℕ → ℕ → Place
place_in bytes =
    let o = opened bytes in
    let s = file.read_sizes o.answer in
    place_of s (take (7 * points s) o.cuts) (take (points s) (filled o).state)

pub entry_accepted : (o : file.Outcome) → (entry_from o).number ≡ 0
    → (o.answer.number ≡ 0) × ((filled o).answer.number ≡ 0)
unfolding entry_from refusal measured
entry_accepted o e = go (eqb o.answer.number 0) (eqb (filled o).answer.number 0) _ refl refl e
  where
    go : (a b : Bool) (m : Entry) → eqb o.answer.number 0 ≡ a → eqb (filled o).answer.number 0 ≡ b
        → (if not a then refusal o.answer.number 0 0
        else if not b then refusal (filled o).answer.number (filled o).answer.place o.answer.end
        else m).number ≡ 0
        → (o.answer.number ≡ 0) × ((filled o).answer.number ≡ 0)
    go true true m p q z = (eqb-true _ _ p, eqb-true _ _ q)
    go true false m p q z = (eqb-true _ _ p, z)
    go false b m p q z = absurd (false_F _ p (true_T _ (eq-eqb o.answer.number 0 z)))

pub printed_volume : (bytes : List ℕ) → Bytes bytes → (entry_of bytes).number ≡ 0
    → pos (entry_of bytes).sum ≡ sum (face_volume (place_in bytes)) (boundary_faces (mesh_in bytes))
unfolding opened filled entry_from measured
printed_volume bytes h e =
    let z = entry_accepted (opened bytes) e in
    let w = opens {bytes = bytes} refl refl refl in
    let cuts = read_bytes bytes h bench_limit _ _ (bytes_zeros bench_cuts) z.0 in
    let ready = filled_ready w z.0 refl refl refl z.1 cuts in
    rw (eq-eqb _ 0 z.0, eq-eqb _ 0 z.1) (total_above ready ∙ filled_encloses w z.0 refl refl refl z.1 cuts)
