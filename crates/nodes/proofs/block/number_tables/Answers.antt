-- The refusal of the tables, or of a row table of no whole rows. Assumes nothing.
use Prim.Native.Nat.{ℕ}
use mathlib.Core.Path.{◌≡◌, sym, ap, subst}
use Rattle.std.specs.Prelude.{Result, Err}
use Rattle.std.proofs.Common.{rules}
use Rattle.filling.specs.declared.Placed.{Placed}
use Rattle.nodes.specs.declared.refused.Refused.{Refused}
use Rattle.nodes.specs.declared.refused.Refused.TheVariants.{Call}
use Rattle.nodes.specs.inner.Answer.{answer_of, Says}
use Rattle.nodes.proofs.Answering.{tables_said, quads_said, says_same}
use Rattle.nodes.proofs.block.number_tables.Goals as goal

pub returns-in_err-stored : goal.returns-in_err-stored
returns-in_err-stored c =
    let a = c.args in
    let why = c.in_err-stored.field-0.0 in
    let r : c.from_residual.result ≡ Err (Call why) = search rules in
    subst (λ (r : Result ℕ Refused). Says a.s a.cuts.now a.state.now a.rows.now a.nodes.now (answer_of r) a.rows.now a.nodes.now) (sym r)
    (tables_said a.s a.cuts.now a.state.now a.rows.now a.nodes.now why (λ id. ap (λ (p : Placed). p.number) (c.in_err-stored.ensures id)))

pub returns-then-rows-ne0 : goal.returns-then-rows-ne0
returns-then-rows-ne0 c =
    let e = c.in_ok-stored.ensures in
    says_same e.0 e.1 e.2 (quads_said c.in_ok-stored.stored c.args.rows.now c.args.nodes.now c.if-rows-ne0.true)
