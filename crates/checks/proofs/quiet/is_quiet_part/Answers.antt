-- Bytes that are blank, and five ranges that are level for one label or the other. Assumes nothing.
use native.Mathlib.Omega.{arith}
use mathlib.Core.Path.{refl, subst}
use Rattle.lattice.specs.declared.Site.{Site}
use Rattle.lines.specs.inner.Strides.{ends_at}
use Rattle.lines.proofs.Sites.{along_sited, along_own}
use Rattle.checks.specs.inner.Glance.{Covers}
use Rattle.checks.proofs.Glance.{level_fine}
use Rattle.checks.proofs.Walk.{room, line_small}
use Rattle.checks.proofs.quiet.is_quiet_part.Goals as goal

pub along-first-requires : goal.along-first-requires
along-first-requires c = line_small c.args.table.scan.lattice.sized c.requires.line (omega (arith, c.requires.from_lt_to))

pub is_plus-requires : goal.is_plus-requires
is_plus-requires c =
    let r = room c.args.table.scan.lattice.sized c.requires.line refl in
    omega (arith, r.fits, c.requires.from_lt_to, along_own c.requires.line (omega (arith, c.requires.from_lt_to)) c.along-first.ensures)

pub range_starts-requires : goal.range_starts-requires
range_starts-requires c = along_sited c.requires.line (omega (arith, c.requires.from_lt_to)) c.along-first.ensures

pub returns-then-is_blank : goal.returns-then-is_blank
returns-then-is_blank c =
    let a = c.args in
    let r = c.range_starts in
    let v = subst (λ (t : Site). Covers t.own (ends_at a.table.scan.lattice.sizes t) r.result) c.along-first.ensures r.ensures in
    let own = along_own c.requires.line (omega (arith, c.requires.from_lt_to)) c.along-first.ensures in
    let z = c.is_blank.ensures c.if-is_blank.true in
    λ t. level_fine a.table.scan.lattice.sized c.requires.line a.from a.to v (omega (arith, c.requires.from_lt_to)) c.requires.from_lt_to.1 (c.is_level.ensures t)
    a.table.cuts.now (λ o l u. z o (omega arith) (omega arith))
