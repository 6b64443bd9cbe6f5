use Rattle.std.proofs.Common.{arith, rules, subst, sym, ◌∙◌}
use Rattle.std.specs.Io.KnownBytes.{Appends}
use Rattle.volume_report.proofs.Counted.{counts_more, more_come}
use Rattle.report.proofs.Reporting.{holds, goes_on, ends_full, ends_over, ends_last}
use Rattle.report.proofs.run.Goals as goal

pub returns-then-held-eq0 : goal.returns-then-held-eq0
returns-then-held-eq0 g c =
    let more = more_come c.loop-bytes.totals.tally c.goes_on.ensures c.loop-bytes-test.true in
    let f = c.fetch-held in
    let h = holds (g.R.Read.remaining f.new.input) f.new.bytes f.result.held f.result.ended f.ensures.held_in
    (λ z. f.ensures.end z c.in_default.is) in
    ends_over _ _ _ _ _ _ _ c.loop-bytes.invariant more f.ensures.taken h c.print_last.result _ (search rules) c.print_last.ensures

pub returns-then-last : goal.returns-then-last
returns-then-last g c =
    let more = more_come c.loop-bytes.totals.tally c.goes_on.ensures c.loop-bytes-test.true in
    let f = c.fetch-held in
    let u = c.turn-line.ensures in
    let h = holds (g.R.Read.remaining f.new.input) f.new.bytes f.result.held f.result.ended f.ensures.held_in
    (λ z. f.ensures.end z c.in_default.is) in
    let appends = Appends (g.W.Write.contents c.loop-bytes.output) (g.W.Write.contents c.write_all.new.self) in
    let written = subst appends (c.as_slice.ensures ∙ u.line) c.in_ok-write_all.ensures.bytes in
    ends_last _ _ _ _ _ _ _ c.loop-bytes.invariant more f.ensures.taken h c.print_last-then-last.result _ _ _ (search rules)
    u.tally (sym u.last ∙ c.if-last.true) written c.print_last-then-last.ensures

pub loop-bytes-smaller : goal.loop-bytes-smaller
loop-bytes-smaller g c =
    let more = more_come c.loop-bytes.totals.tally c.goes_on.ensures c.loop-bytes-test.true in
    omega (arith, more, counts_more _ _ c.turn-line.ensures.tally)

pub loop-bytes-preserved : goal.loop-bytes-preserved
loop-bytes-preserved g c =
    let more = more_come c.loop-bytes.totals.tally c.goes_on.ensures c.loop-bytes-test.true in
    let f = c.fetch-held in
    let u = c.turn-line.ensures in
    let h = holds (g.R.Read.remaining f.new.input) f.new.bytes f.result.held f.result.ended f.ensures.held_in
    (λ z. f.ensures.end z c.in_default.is) in
    let appends = Appends (g.W.Write.contents c.loop-bytes.output) (g.W.Write.contents c.write_all.new.self) in
    let written = subst appends (c.as_slice.ensures ∙ u.line) c.in_ok-write_all.ensures.bytes in
    goes_on _ _ _ _ _ _ _ c.loop-bytes.invariant more f.ensures.taken h _ _ (search rules) u.tally (sym u.last ∙ c.if-last.false) written

pub returns : goal.returns
returns g c = ends_full c.print_last-2.result _ _ _ _ _ _ c.loop-bytes.invariant (search rules) c.print_last-2.ensures
