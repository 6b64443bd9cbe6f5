-- A stage after the other. Assumes nothing.
use native.Mathlib.Omega.{arith}
use mathlib.Core.Path.{sym, ◌∙◌}
use Rattle.blockfile.proofs.Stages.{up_to_headers, up_to_runs, up_to_end}
use Rattle.blockfile.proofs.file.needed_after.Goals as goal

pub returns-then-bytes-head : goal.returns-then-bytes-head
returns-then-bytes-head c = sym (up_to_headers _ _ c.if-bytes-head.true)

pub returns-then-bytes-first : goal.returns-then-bytes-first
returns-then-bytes-first c = sym (up_to_runs _ _ (c.from.ensures ∙ c.two_at.ensures) c.if-bytes-head.false c.if-bytes-first.true)

pub returns : goal.returns
returns c = c.end_of.ensures ∙ sym (up_to_end _ _ (omega (arith, c.before)))
