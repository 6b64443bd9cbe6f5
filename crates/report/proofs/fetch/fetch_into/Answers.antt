use Rattle.std.proofs.Common.{◌-◌, arith, refl, subst}
use Rattle.std.specs.Io.KnownBytes.{Consumes}
use Rattle.std.proofs.KnownBytes.{Consumes-trans}
use Rattle.streams.proofs.Taken.{taken_more}
use Rattle.report.proofs.Fetching.{fetching_next, ends_input}
use Rattle.report.proofs.fetch.fetch_into.Goals as goal

pub returns-then-got-asked-clause-held_in : goal.returns-then-got-asked-clause-held_in
returns-then-got-asked-clause-held_in g c later e =
    let r = c.read_full-got in
    let w = fetching_next c.loop-held.invariant.0 r.new.table c.needed-need.ensures (omega arith) (omega arith) r.auto.table r.ensures.prefix_len.0 in
    ends_input w later (e refl)

pub returns-then-got-asked-clause-taken : goal.returns-then-got-asked-clause-taken
returns-then-got-asked-clause-taken g c =
    let l = c.loop-held in
    let r = c.read_full-got in
    let more = taken_more l.held (c.needed-need.result - l.held) r.result.count l.bytes r.new.table (omega arith) r.ensures.prefix_len.0 in
    subst (Consumes _ _) more (Consumes-trans _ _ _ _ _ l.invariant.1 r.ensures.consumed)

pub loop-held-preserved : goal.loop-held-preserved
loop-held-preserved g c =
    let l = c.loop-held in
    let r = c.read_full-got in
    let more = taken_more l.held (c.needed-need.result - l.held) r.result.count l.bytes r.new.table (omega arith) r.ensures.prefix_len.0 in (
      fetching_next l.invariant.0 r.new.table c.needed-need.ensures (omega arith) (omega arith) r.auto.table r.ensures.prefix_len.0,
      subst (Consumes _ _) more (Consumes-trans _ _ _ _ _ l.invariant.1 r.ensures.consumed),
    )
