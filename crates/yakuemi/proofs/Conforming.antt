-- Demand 3 of the rows that a call of filling leaves in the lent table. Assumes that cut bytes are bytes, and nothing else.
use Prim.Native.Nat.{ℕ}
use mathlib.Core.Path.{◌≡◌, sym, ap, ◌∙◌}
use mathlib.Core.List.{List}
use Rattle.moving.specs.Block.{Block, Bytes, reading_of}
use Rattle.geometry.specs.Place.{place_of}
use Rattle.filling.specs.declared.Filled.{Filled}
use Rattle.filling.specs.Demand.{Conforms, OnSkin, rows_read}
use Rattle.conformity.proofs.Demand3.{demand_3_written}
use Rattle.stuffing.specs.inner.Fills.{Fills}

pub conforming : (band : ℕ) (b : Block) (state rows : List ℕ) (r : Filled) (stateAfter rowsAfter : List ℕ)
    → Fills band b state rows r stateAfter rowsAfter → Bytes b.cuts → r.number ≡ 0
    → Conforms (rows_read rowsAfter r.rows) (place_of b.sizes b.cuts stateAfter) (OnSkin (reading_of band b))
conforming band b state rows r stateAfter rowsAfter f bytes e =
    rw (f.rows_are, f.state_is, ap (λ (r : Filled). r.rows) f.answer)
    (demand_3_written band b state rows bytes (sym (ap (λ (r : Filled). r.number) f.answer) ∙ e))
