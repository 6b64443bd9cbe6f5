-- A point that is calm, with bytes that are blank. Assumes nothing.
use native.Mathlib.Omega.{arith}
use mathlib.Core.Path.{sym, ◌∙◌}
use borrow.Author.Tests.{ltb-true}
use Rattle.lines.proofs.Sites.{site_lt}
use Rattle.checks.proofs.Glance.{ends_in, calm_fine}
use Rattle.checks.proofs.quiet.is_quiet.Goals.{then-highest-scan, else-highest-scan}
use Rattle.checks.proofs.quiet.is_quiet.Goals as goal

pub is_calm-requires : goal.is_calm-requires
is_calm-requires c =
    record {
      own_in_bounds = site_lt _ _ c.args.scan.lattice.sized c.requires.sited;
      by_index = ends_in c.args.q c.args.scan.lattice.sized c.ahead-far.ensures (omega arith) (omega arith);
    }

pub returns-then-is_calm : goal.returns-then-is_calm
returns-then-is_calm c =
    elim c.if-highest-scan.branch [
      | then-highest-scan w ↦
          λ t. calm_fine c.args.scan.lattice.sized c.requires.sited c.ahead-far.ensures (w.is_calm.ensures (sym w.value-is ∙ c.if-is_calm.true))
          c.args.bytes.now (c.are_zero.ensures t)
      | else-highest-scan w ↦ let h = ltb-true _ _ (sym w.value-is ∙ c.if-is_calm.true) in absurd (omega arith)
    ]
