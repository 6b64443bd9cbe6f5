-- After i samples as stated the rest decides. Assumes nothing.
use native.Mathlib.Omega.{arith}
use Prim.Native.Nat.{◌+◌, ◌*◌}
use mathlib.Core.Path.{◌≡◌, refl, ap, ◌∙◌}
use lib.IntN.{pos}
use lib.ListN.{get_or}
use lib.Dec.{eqb}
use borrow.Author.Tests.{eq-eqb, ne_eqb}
use mir.Syntax.{w16}
use mir.Val.{of_z}
use Rattle.comparison.specs.program.Same.{same_sample}
use Rattle.blockfile.specs.Format.{two_at, signed}
use Rattle.comparison.proofs.Samples.{bits_test, samples_next, samples_differ, samples_end}
use Rattle.comparison.proofs.tables.same_samples.Goals.{After-signed}
use Rattle.comparison.proofs.tables.same_samples.Goals as goal

-- a sample and the one that is stated, by their bits
bits : (c : After-signed) → eqb (of_z w16 (get_or c.args.samples.now c.loop-i.i (pos 0))) (of_z w16 c.signed.result)
    ≡ same_sample (get_or c.args.samples.now c.loop-i.i (pos 0)) c.signed.result
bits c = bits_test _ _ (record { sfits = omega arith }) (record { sfits = c.signed.type_inv })

stated : (c : After-signed) → c.signed.result ≡ signed (two_at c.args.bytes.now (c.args.at + 2 * c.loop-i.i))
stated c = c.signed.ensures ∙ ap signed c.two_at.ensures

pub returns-then-sample-signed : goal.returns-then-sample-signed
returns-then-sample-signed c =
    let w = (goal.at.returns-then-sample-signed c).After-signed in
    samples_differ _ _ _ c.loop-i.i (omega arith) (bits w) refl (stated w) (ne_eqb _ _ c.if-sample-signed.true) ∙ c.loop-i.invariant

pub loop-i-preserved : goal.loop-i-preserved
loop-i-preserved c =
    let w = (goal.at.loop-i-preserved c).After-signed in
    samples_next _ _ _ c.loop-i.i (omega arith) (bits w) refl (stated w) (eq-eqb _ _ c.if-sample-signed.false) ∙ c.loop-i.invariant

pub returns : goal.returns
returns c = samples_end _ _ _ c.loop-i.i (omega arith) ∙ c.loop-i.invariant
