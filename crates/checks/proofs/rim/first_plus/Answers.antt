-- The first number of the range that passes. Assumes nothing.
use Rattle.std.proofs.Common.{◌≡◌, true, false, ℕ, rules, tests}
use Rattle.std.proofs.lemmas.Iterator.{first_from_Range}
use Rattle.moving.specs.Label.{is_plus}
use Rattle.labelling.specs.inner.Scans.{label_in}
use Rattle.checks.proofs.Search.{found_in}
use Rattle.checks.proofs.rim.first_plus.Goals as goal

pub returns : goal.returns
returns c =
    let plus = λ (p : ℕ). is_plus (label_in c.args.scan p) in
    found_in plus c.args.from c.args.to c.find.result
    (first_from_Range _ _ _ _ (λ i. plus i ≡ true) (λ i. plus i ≡ false) c.find.ensures.ran
    (λ x q k. search (rules, tests)) (λ x q k. search (rules, tests)))
