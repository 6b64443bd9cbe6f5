-- Each way out by the tests that led there. Assumes nothing.
use Prim.Native.Nat.{ℕ, ◌+◌, ◌-◌, ◌≤◌}
use native.Mathlib.Omega.{arith}
use mathlib.Core.Path.{◌≡◌, sym, ap, ap₂, ◌∙◌}
use mathlib.Core.Bool.{Bool}
use mathlib.Core.List.{List}
use lib.ListN.{length, take, drop, length-drop}
use lib.Seq.{length-take-le, take_all}
use borrow.Author.Tests.{not-false}
use Rattle.basics.proofs.Test.{first_fails, second_fails, all_three}
use Rattle.comparison.specs.program.Same.{same, untouched, ids_from}
use Rattle.replay.specs.declared.Lengths.{Lengths}
use Rattle.replay.specs.program.Fills.{state_at, ids_at}
use Rattle.replay.proofs.Composed.{part_is, not_so, tables_are}
use Rattle.replay.proofs.fills.Recorded.are_stated.Goals as goal

-- the code takes the state bytes by their two ends, and as many ids as the part of the table that it lends has
state_is : (l : Lengths) (body state : List ℕ)
    → same state (take (state_at l + l.state - state_at l) (drop (state_at l) body)) ≡ same state (take l.state (drop (state_at l) body))
state_is l body state = ap (same state) (part_is body (state_at l) l.state)

ids_are : {b : Bool} (l : Lengths) (body rows : List ℕ) → l.ids ≤ length rows
    → b ≡ same (take l.ids rows) (ids_from body (ids_at l) (length (take l.ids rows)))
    → b ≡ same (take l.ids rows) (ids_from body (ids_at l) l.ids)
ids_are l body rows le e = e ∙ ap (λ (n : ℕ). same (take l.ids rows) (ids_from body (ids_at l) n)) (length-take-le l.ids rows le)

pub returns-then-ne : goal.returns-then-ne
returns-then-ne c =
    let r = c.args.self in
    first_fails (tables_are _ _ _ _ _) (state_is r.lengths r.body.now c.args.state.now) (not_so _ (sym c.ne.ensures ∙ c.if-ne.true))

pub returns-then-not-same_ids : goal.returns-then-not-same_ids
returns-then-not-same_ids c =
    let r = c.args.self in
    second_fails (tables_are _ _ _ _ _) (state_is r.lengths r.body.now c.args.state.now) (not-false _ (sym c.ne.ensures ∙ c.if-ne.false))
    (ids_are r.lengths r.body.now c.args.rows.now c.requires c.same_ids.ensures) c.if-not-same_ids.true

pub returns : goal.returns
returns c =
    let r = c.args.self in
    let rest = drop r.lengths.ids c.args.rows.now in
    let all : take (length c.args.rows.now - r.lengths.ids) rest ≡ rest = take_all _ _ (omega (arith, length-drop r.lengths.ids c.args.rows.now)) in
    all_three (tables_are _ _ _ _ _) (state_is r.lengths r.body.now c.args.state.now) (not-false _ (sym c.ne.ensures ∙ c.if-ne.false))
    (ids_are r.lengths r.body.now c.args.rows.now c.requires c.same_ids.ensures) c.if-not-same_ids.false
    (c.is_untouched.ensures ∙ ap₂ untouched c.four_at.ensures all)
