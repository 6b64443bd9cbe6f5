-- Each of the five ranges is asked for. Assumes nothing.
use Rattle.std.proofs.Common.{◌≤◌, rules, arith}
use Rattle.std.proofs.lemmas.Grind.{get_or_default_zero}
use Rattle.std.proofs.lemmas.Iterator.{YieldsList-from_slice}
use Rattle.std.proofs.lemmas.Iterator.Adapters.{serves_from_places}
use Rattle.lines.specs.inner.Strides.{range_most}
use Rattle.checks.proofs.quiet.is_level.Goals as goal

pub any-requires-clause-callable : goal.any-requires-clause-callable
any-requires-clause-callable c =
    serves_from_places (YieldsList-from_slice c.args.starts (cc)) (λ x q r. search rules)
    (λ x k h e.
    let here : x.now ≤ range_most = omega (arith, c.requires.by_index k (omega arith), get_or_default_zero c.args.starts k x.now h) in
    search rules)
