-- Points moved, rows counted, and written where they fit. Assumes nothing.
use Prim.Native.Nat.{ℕ}
use mathlib.Core.Path.{ap, ◌∙◌}
use mathlib.Core.List.{List}
use Rattle.moving.specs.Moving.{state_of}
use Rattle.moving.specs.Block.{reading_of, Bytes}
use Rattle.moving.proofs.Moved.{state_reached}
use Rattle.filling.specs.Fill.{overwritten}
use Rattle.filling.proofs.Fits.{accepted_fits}
use Rattle.labelling.specs.inner.Scans.{block_in}
use Rattle.conformity.proofs.Bridge.{limit_reach, sound}
use Rattle.emit.proofs.Oriented.{mesh_length, mesh_table}
use Rattle.stuffing.proofs.Written.{too_short, long_enough}
use Rattle.stuffing.proofs.steps.fill_accepted.Goals as goal

pub returns-then-rows-count : goal.returns-then-rows-count
returns-then-rows-count c =
    let a = c.args in
    let b = block_in a.scan a.cuts.now in
    let moved = c.warp-moved.ensures in
    let counted = c.count_rows-count.ensures ∙ mesh_length (reading_of a.scan.band b) _ moved.state_after in
    rw c.answered.ensures
    (too_short a.scan.band b a.state.now a.rows.now c.requires.accepted c.requires.state_len _ _ _ counted moved.value moved.state_after
    c.if-rows-count.true)

pub returns : goal.returns
returns c =
    let a = c.args in
    let b = block_in a.scan a.cuts.now in
    let m = reading_of a.scan.band b in
    let moved = c.warp-moved.ensures in
    let counted = c.count_rows-count.ensures ∙ mesh_length m _ moved.state_after in
    let bytes : Bytes a.cuts.now = λ o. (c.type_inv.cuts o).fits in
    let is-sound = sound (state_of m) (accepted_fits a.scan.band b c.requires.accepted) bytes limit_reach (state_reached m) in
    let rows = mesh_table m _ moved.state_after is-sound in
    let new = c.write_rows.ensures ∙ ap (λ (l : List ℕ). overwritten l a.rows.now) rows in
    rw c.answered-2.ensures
    (long_enough a.scan.band b a.state.now a.rows.now c.requires.accepted c.requires.state_len _ _ _ counted moved.value
    moved.state_after _ new c.if-rows-count.false)
