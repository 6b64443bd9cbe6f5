use Rattle.std.proofs.Common.{◌-◌, arith, subst, length, rules}
use Rattle.std.specs.Io.KnownBytes.{Consumes}
use Rattle.std.proofs.KnownBytes.{Consumes-trans}
use Rattle.streams.proofs.Taken.{taken_more}
use Rattle.streams.proofs.read_full.Goals as goal

pub loop-count-preserved : goal.loop-count-preserved
loop-count-preserved g c =
    let l = c.loop-count in
    let more = taken_more l.count (length l.table - l.count) c.in-Ok.n l.table c.read.new.buf (omega arith) c.in-Ok.ensures.bound.0 in (
      search rules,
      search rules,
      subst (Consumes _ _) more (Consumes-trans _ _ _ _ _ l.invariant.2 c.in-Ok.ensures.bytes.0),
    )
