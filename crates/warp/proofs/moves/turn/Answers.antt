-- The nearest cut by the bytes is live, or there is none; or the search decides. Assumes nothing.
use mathlib.Core.Path.{refl, sym, ap, ◌∙◌}
use mathlib.Core.Bool.{true}
use mathlib.Core.Logic.{inl, inr}
use Rattle.std.proofs.Common.{rules, ℕ}
use Rattle.lattice.specs.Edge.{neighbour}
use Rattle.moving.specs.State.{is_move}
use Rattle.moving.specs.Block.{reading_of}
use Rattle.moving.specs.Moving.{choice}
use Rattle.labelling.specs.inner.Scans.{block_in}
use Rattle.warp.specs.inner.Quick.{open_along}
use Rattle.warp.specs.inner.Turns.{chosen}
use Rattle.warp.proofs.Searching.{all_taken}
use Rattle.warp.proofs.Turning.{turn_long, turn_below, turn_reached}
use Rattle.warp.proofs.Quiet.{guess_at, open_choice}
use Rattle.warp.proofs.moves.turn.Goals as goal

pub returns-in_err-code : goal.returns-in_err-code
unfolding choice is_move
returns-in_err-code c =
    let m = reading_of c.args.scan.band (block_in c.args.scan c.args.cuts.now) in
    let t = c.requires in
    let z = c.args.scan.lattice.sized in
    let guess = c.in_err-code.ensures (λ k. true) (λ code b e. search rules) ∙ all_taken c.args.cuts.now c.offsets-at.result in
    ap chosen c.from_residual.ensures
    ∙ guess_at m (turn_reached m t z) _ _ refl refl (turn_below m t z) z t.sited c.offsets-at.ensures guess (inl refl)

pub is_live_by-requires-clause-state_len : goal.is_live_by-requires-clause-state_len
is_live_by-requires-clause-state_len c = turn_long _ c.requires

pub returns-then-is_live_by : goal.returns-then-is_live_by
unfolding choice
returns-then-is_live_by c =
    let m = reading_of c.args.scan.band (block_in c.args.scan c.args.cuts.now) in
    let t = c.requires in
    let z = c.args.scan.lattice.sized in
    let code = c.in_ok-code.code.names_edge in
    let guess = c.in_ok-code.ensures (λ k. true) (λ code b e. search rules) ∙ all_taken c.args.cuts.now c.offsets-at.result in
    guess_at m (turn_reached m t z) _ _ refl refl (turn_below m t z) z t.sited c.offsets-at.ensures guess
    (inr (code, sym c.is_live_by.ensures ∙ c.if-is_live_by.true))

pub nearest-requires-2 : goal.nearest-requires-2
nearest-requires-2 c = let long = turn_long _ c.requires in search (rules, long)

pub returns : goal.returns
unfolding choice
returns c =
    let m = reading_of c.args.scan.band (block_in c.args.scan c.args.cuts.now) in
    let t = c.requires in
    let z = c.args.scan.lattice.sized in
    let live = λ (k : ℕ). open_along c.args.state.now c.args.q.own (neighbour c.args.scan.lattice.sizes c.args.q.own k) in
    open_choice m (turn_reached m t z) _ _ refl (turn_below m t z) z t.sited c.offsets-at.ensures
    (c.nearest-2.ensures live (λ code b e. search rules))
