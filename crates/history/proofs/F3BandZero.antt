-- F-3, "A noise band", compared: filling without a band beside filling by the band 0. Whatever is handed in; nothing is assumed.
--
-- `reading_before` and `fill_before` are today's definitions without F-3: a label is its sample's sign, no band is asked for, and 14 is no
-- refusal. All else is of today, F-8's mark too: this is not what stood before F-3, but what would stand today without F-3.
--     band_0   "Band 0 changes no answer": the answer and both tables are the same
use Prim.Native.Nat.{ℕ, ◌*◌}
use mathlib.Core.Path.{◌≡◌, refl}
use mathlib.Core.Bool.{not}
use mathlib.Core.List.{List}
use lib.ListN.{length}
use lib.Dec.{ltb, eqb}
use Rattle.std.specs.Prelude.{if◌then◌else◌}
use Rattle.lattice.specs.Counts.{sizes_fit, points}
use Rattle.moving.specs.Label.{band_fits}
use Rattle.moving.specs.Violation.{rule1}
use Rattle.moving.specs.Reading.{Reading}
use Rattle.moving.specs.Block.{Block}
use Rattle.filling.specs.Fill.{Outcome, refused, written, fill}
use Rattle.filling.specs.Check.{cut_fault, first_rim, first_cut}
use Rattle.history.proofs.F9Signs.{signs, labels_raw}

unfoldable pub reading_before : Block → Reading
reading_before b = record { sizes = b.sizes; label = signs b.samples; cuts = b.cuts; rule = rule1 }

unfoldable pub fill_before : Block → List ℕ → List ℕ → Outcome
fill_before b state rows =
    let s = b.sizes in
    let label = signs b.samples in
    let rim = first_rim s label in
    let cut = first_cut s label b.cuts in
    let refuse = refused state rows in
    if not (sizes_fit s) then refuse 1 0
    else if not (eqb (length b.samples) (points s)) then refuse 2 0
    else if not (eqb (length b.cuts) (7 * points s)) then refuse 3 0
    else if not (eqb (length state) (points s)) then refuse 4 0
    else if ltb rim (points s) then refuse 5 rim
    else if ltb cut (7 * points s) then refuse (cut_fault s label b.cuts cut) cut
    else written state rows (reading_before b)

pub band_0 : (b : Block) (state rows : List ℕ) → fill 0 b state rows ≡ fill_before b state rows
unfolding fill fill_before reading_before band_fits
band_0 b state rows = rw (labels_raw b.samples) refl
