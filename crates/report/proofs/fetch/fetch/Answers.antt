use Rattle.std.proofs.Common.{◌≡◌, length, rules}
use Rattle.blockfile.specs.inner.Needs.{bench_longest}
use Rattle.report.proofs.fetch.fetch.Goals as goal

-- the array as a slice
pub returns-clause-held_in : goal.returns-clause-held_in
returns-clause-held_in g c = let e : length c.args.bytes.now ≡ bench_longest = search rules in rw e at c.fetch_into.ensures.held_in
