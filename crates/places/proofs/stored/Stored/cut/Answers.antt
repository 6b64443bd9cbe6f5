-- The cut of an edge between two points whose labels are not zero; or 8. Assumes nothing.
use native.Mathlib.Omega.{arith}
use Prim.Native.Nat.{ℕ, ◌+◌, ◌/◌, ◌%◌}
use mathlib.Core.Path.{◌≡◌, sym, ap, ◌∙◌}
use lib.IntN.{ℤ}
use Rattle.std.proofs.Common.{Option}
use Rattle.lattice.specs.declared.Sizes.{Sizes}
use Rattle.lattice.specs.declared.Site.{Site}
use Rattle.lattice.specs.Axis.{Axis}
use Rattle.lattice.specs.Direction.{direction}
use Rattle.lattice.specs.Edge.{near, neighbour}
use Rattle.lattice.specs.inner.Site.{index, site_of}
use Rattle.lattice.proofs.Edge.{neighbour_lt}
use Rattle.geometry.specs.Place.{rest}
use Rattle.refusals.specs.inner.Numbers.{refusal_number}
use Rattle.lines.proofs.Sites.{siting}
use Rattle.triple.specs.inner.Places.{along}
use Rattle.places.proofs.Decoded.{site_leads, site_rest, site_le}
use Rattle.places.proofs.Standing.{start_code, start_along}
use Rattle.places.proofs.Answers.{along-up, cut_none, cut-absent, cut-starts, cut-ends, cut-answer}
use Rattle.places.proofs.stored.Stored.cut.Goals.{then-t-eq0-via-then-t-eq0, then-t-eq0-via-else-t-eq0+then-says_zero}
use Rattle.places.proofs.stored.Stored.cut.Goals as goal

-- what the search along the edge of the byte at o found
leads : (s : Sizes) (o : ℕ) {q : Site} {k : ℕ} {n m : Option ℕ} → q ≡ site_of s (o / 7) → k ≡ o % 7 + 1 → n ≡ near s q.kind (index q) k
    → n ≡ m → neighbour s (o / 7) (o % 7 + 1) ≡ m
leads s o {q} is e f g = site_leads s (o / 7) q is (o % 7 + 1) (f ∙ ap (near s q.kind (index q)) e) g

pub returns-then-t-eq0-clause-answer : goal.returns-then-t-eq0-clause-answer
unfolding refusal_number
returns-then-t-eq0-clause-answer c =
    let t = c.args.self in
    elim c.then-t-eq0.branch [
      | then-t-eq0-via-then-t-eq0 w ↦ cut-absent t.lattice.sizes t.cuts.now t.state.now c.args.o (sym c.byte_at-t.ensures ∙ w.if-t-eq0.true)
      | then-t-eq0-via-else-t-eq0+then-says_zero w ↦
          cut-starts t.lattice.sizes t.cuts.now t.state.now c.args.o (sym w.says_zero.ensures ∙ w.if-says_zero.true)
    ]

pub neighbour-requires : goal.neighbour-requires
neighbour-requires c = (siting c.args.self.lattice.sizes (c.args.o / 7) _ c.locate-q.ensures (omega arith)).0

pub returns-in_default-clause-answer : goal.returns-in_default-clause-answer
unfolding refusal_number
returns-in_default-clause-answer c =
    let t = c.args.self in
    cut_none t.lattice.sizes t.cuts.now t.state.now c.args.o
    (leads t.lattice.sizes c.args.o c.locate-q.ensures c.at_start.ensures c.neighbour.ensures c.in_default.is)

pub bounds-self-far : goal.bounds-self-far
bounds-self-far c =
    let s = c.args.self.lattice.sizes in
    let o = c.args.o in
    let to = leads s o c.locate-q.ensures c.at_start.ensures c.neighbour.ensures c.in-Some.is in
    omega (arith, c.args.self.state_long, neighbour_lt s (o / 7) (o % 7 + 1) _ (omega arith) (start_code (o % 7) (omega arith)) to)

pub returns-then-says_zero-2-clause-answer : goal.returns-then-says_zero-2-clause-answer
unfolding refusal_number
returns-then-says_zero-2-clause-answer c =
    let t = c.args.self in
    let to = leads t.lattice.sizes c.args.o c.locate-q.ensures c.at_start.ensures c.neighbour.ensures c.in-Some.is in
    cut-ends t.lattice.sizes t.cuts.now t.state.now c.args.o _ to (λ z. c.if-t-eq0.false (c.byte_at-t.ensures ∙ z))
    (sym c.says_zero.ensures ∙ c.if-says_zero.false) (sym c.says_zero-2.ensures ∙ c.if-says_zero-2.true)

pub rest_place-requires : goal.rest_place-requires
rest_place-requires c =
    site_le c.args.self.lattice.sizes (c.args.o / 7) _ c.locate-q.ensures c.args.self.lattice.sized (omega arith)

pub returns-clause-answer : goal.returns-clause-answer
returns-clause-answer c =
    let t = c.args.self in
    let o = c.args.o in
    let to = leads t.lattice.sizes o c.locate-q.ensures c.at_start.ensures c.neighbour.ensures c.in-Some.is in
    let rests = c.rest_place.ensures.result_value ∙ site_rest t.lattice.sizes (o / 7) _ c.locate-q.ensures in
    let led = ap (λ (f : Axis → ℤ). along f (direction (o % 7)) c.byte_at-t.result) rests in
    let byte = ap (λ (n : ℕ). along (rest t.lattice.sizes (o / 7)) (direction (o % 7)) n) c.byte_at-t.ensures in
    cut-answer t.lattice.sizes t.cuts.now t.state.now o _ to (λ z. c.if-t-eq0.false (c.byte_at-t.ensures ∙ z))
    (sym c.says_zero.ensures ∙ c.if-says_zero.false) (sym c.says_zero-2.ensures ∙ c.if-says_zero-2.false) _
    (c.cut_place.ensures.result_value ∙ led ∙ byte)

pub returns-clause-answerable : goal.returns-clause-answerable
returns-clause-answerable c =
    let t = c.args.self in
    let o = c.args.o in
    let to = leads t.lattice.sizes o c.locate-q.ensures c.at_start.ensures c.neighbour.ensures c.in-Some.is in
    let rests = c.rest_place.ensures.result_value ∙ site_rest t.lattice.sizes (o / 7) _ c.locate-q.ensures in
    let led = ap (λ (f : Axis → ℤ). along f (direction (o % 7)) c.byte_at-t.result) rests in
    let is = c.cut_place.ensures.result_value ∙ led ∙ sym (start_along _ (o % 7) _ (omega arith)) in
    record {
      in_box = c.cut_place.ensures.in_box_2;
      nonnegative = along-up t.lattice.sizes (o / 7) (o % 7 + 1) _ _ (omega (arith, c.requires)) (start_code (o % 7) (omega arith)) to
          (omega (arith, c.byte_at-t.type_inv)) _ is;
    }
