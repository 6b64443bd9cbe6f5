-- The cut that the code names, seen from the point; or 9. Assumes nothing.
use native.Mathlib.Omega.{arith}
use mathlib.Core.Path.{ap, ◌∙◌}
use lib.IntN.{ℤ}
use lib.ListN.{get_or}
use Prim.Native.Nat.{ℕ}
use Rattle.lattice.specs.Axis.{Axis}
use Rattle.lattice.specs.Counts.{points}
use Rattle.lattice.specs.Direction.{step}
use Rattle.lattice.proofs.Bounds.{points_small}
use Rattle.lattice.proofs.Edge.{neighbour_lt}
use Rattle.moving.specs.Violation.{measured}
use Rattle.refusals.specs.inner.Numbers.{refusal_number}
use Rattle.lines.proofs.Sites.{siting, byte_lt}
use Rattle.triple.specs.inner.Places.{along}
use Rattle.places.proofs.Decoded.{site_leads, site_rest, site_le}
use Rattle.places.proofs.Answers.{measured-small, along-up, moved_none, moved-far, moved-answer, violated_none, violated_some}
use Rattle.places.proofs.stored.Stored.moved.Goals as goal

pub neighbour-requires : goal.neighbour-requires
neighbour-requires c = (siting c.args.self.lattice.sizes c.args.p _ c.locate-q.ensures c.requires).0

pub returns-in_default-clause-answer : goal.returns-in_default-clause-answer
unfolding refusal_number
returns-in_default-clause-answer c =
    let s = c.args.self.lattice.sizes in
    moved_none s c.args.self.cuts.now c.args.p c.args.code.code
    (site_leads s c.args.p _ c.locate-q.ensures c.args.code.code c.neighbour.ensures c.in_default.is)

pub edge_byte-requires : goal.edge_byte-requires
edge_byte-requires c =
    let s = c.args.self.lattice.sizes in
    let code = c.args.code in
    let to = site_leads s c.args.p _ c.locate-q.ensures code.code c.neighbour.ensures c.in-Some.is in
    let n = points_small s c.args.self.lattice.sized in
    (omega arith, omega (arith, neighbour_lt s c.args.p code.code _ c.requires code.names_edge to))

pub byte_at-t-requires : goal.byte_at-t-requires
byte_at-t-requires c =
    let s = c.args.self.lattice.sizes in
    let code = c.args.code in
    let to = site_leads s c.args.p _ c.locate-q.ensures code.code c.neighbour.ensures c.in-Some.is in
    let far = neighbour_lt s c.args.p code.code _ c.requires code.names_edge to in
    omega (arith, c.edge_byte.ensures, byte_lt (points s) c.args.p code.code _ code.names_edge c.requires far)

pub returns-then-is_none-clause-answer : goal.returns-then-is_none-clause-answer
unfolding refusal_number
returns-then-is_none-clause-answer c =
    let s = c.args.self.lattice.sizes in
    let cuts = c.args.self.cuts.now in
    let to = site_leads s c.args.p _ c.locate-q.ensures c.args.code.code c.neighbour.ensures c.in-Some.is in
    let byte = c.byte_at-t.ensures ∙ ap (λ (o : ℕ). get_or cuts o 0) c.edge_byte.ensures in
    moved-far s cuts c.args.p c.args.code.code _ _ to byte
    (violated_none _ c.violation.ensures c.if-is_none.ensures)

pub rest_place-requires : goal.rest_place-requires
rest_place-requires c =
    site_le c.args.self.lattice.sizes c.args.p _ c.locate-q.ensures c.args.self.lattice.sized c.requires

pub returns-clause-answer : goal.returns-clause-answer
returns-clause-answer c =
    let s = c.args.self.lattice.sizes in
    let cuts = c.args.self.cuts.now in
    let code = c.args.code in
    let to = site_leads s c.args.p _ c.locate-q.ensures code.code c.neighbour.ensures c.in-Some.is in
    let byte = c.byte_at-t.ensures ∙ ap (λ (o : ℕ). get_or cuts o 0) c.edge_byte.ensures in
    let rests = c.rest_place.ensures.result_value ∙ site_rest s c.args.p _ c.locate-q.ensures in
    let led = ap (λ (f : Axis → ℤ). along f (step code.code) (measured code.code c.byte_at-t.result)) rests in
    moved-answer s cuts c.args.p code.code _ _ to byte c.requires code.names_edge (omega (arith, c.byte_at-t.type_inv))
    (violated_some _ c.violation.ensures c.if-is_none.ensures) _ (c.moved_place.ensures.result_value ∙ led)

pub returns-clause-answerable : goal.returns-clause-answerable
returns-clause-answerable c =
    let s = c.args.self.lattice.sizes in
    let code = c.args.code in
    let to = site_leads s c.args.p _ c.locate-q.ensures code.code c.neighbour.ensures c.in-Some.is in
    let t = c.byte_at-t.result in
    let rests = c.rest_place.ensures.result_value ∙ site_rest s c.args.p _ c.locate-q.ensures in
    let led = ap (λ (f : Axis → ℤ). along f (step code.code) (measured code.code t)) rests in
    let small = measured-small code.code t (omega (arith, c.byte_at-t.type_inv)) in
    record {
      in_box = c.moved_place.ensures.in_box_2;
      nonnegative = along-up s c.args.p code.code _ _ c.requires code.names_edge to small _ (c.moved_place.ensures.result_value ∙ led);
    }
