-- At rest, moved, or with a byte that is neither. Assumes nothing.
use mathlib.Core.Path.{sym, ◌∙◌}
use Rattle.refusals.specs.inner.Numbers.{refusal_number}
use Rattle.triple.proofs.Box.{box_wider}
use Rattle.places.proofs.Decoded.{site_rest, site_le}
use Rattle.places.proofs.Answers.{rest_up, point-rests, point-moved, point-strange}
use Rattle.places.proofs.stored.Stored.point.Goals as goal

pub rest_place-requires : goal.rest_place-requires
rest_place-requires c = site_le c.args.self.lattice.sizes c.args.p _ c.locate.ensures c.args.self.lattice.sized c.requires

pub returns-then-no_move-clause-answer : goal.returns-then-no_move-clause-answer
returns-then-no_move-clause-answer c =
    let t = c.args.self in
    point-rests t.lattice.sizes t.cuts.now t.state.now c.args.p (sym c.no_move.ensures ∙ c.if-no_move.true) _
    (c.rest_place.ensures.result_value ∙ site_rest t.lattice.sizes c.args.p _ c.locate.ensures)

pub returns-then-no_move-clause-answerable : goal.returns-then-no_move-clause-answerable
returns-then-no_move-clause-answerable c =
    let s = c.args.self.lattice.sizes in
    record {
      in_box = box_wider c.rest_place.ensures.in_box;
      nonnegative = rest_up s c.args.p _ (c.rest_place.ensures.result_value ∙ site_rest s c.args.p _ c.locate.ensures);
    }

pub returns-in-Some-clause-answer : goal.returns-in-Some-clause-answer
returns-in-Some-clause-answer c =
    let t = c.args.self in
    c.moved.ensures.answer
    ∙ point-moved t.lattice.sizes t.cuts.now t.state.now c.args.p _ c.in-Some.ensures.same c.in-Some.code.names_edge

pub returns-in-None-clause-answer : goal.returns-in-None-clause-answer
unfolding refusal_number
returns-in-None-clause-answer c =
    let t = c.args.self in
    point-strange t.lattice.sizes t.cuts.now t.state.now c.args.p (sym c.no_move.ensures ∙ c.if-no_move.false)
    (sym c.in-None.ensures.moved)
