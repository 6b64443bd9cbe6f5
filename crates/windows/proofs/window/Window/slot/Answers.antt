-- A part's own slot, or the one that the last parts share. Assumes nothing.
use native.Mathlib.Omega.{arith}
use mathlib.Core.Logic.{inl, inr}
use Rattle.basics.proofs.Test.{lt_or}
use Rattle.windows.specs.inner.Windows.{last_part}
use Rattle.windows.proofs.Slots.{slot_own, slot_shared}
use Rattle.windows.proofs.window.Window.slot.Goals as goal

pub returns-clause-value : goal.returns-clause-value
returns-clause-value c =
    let w = c.args.self.index in
    let p = c.args.p in
    elim (lt_or p last_part) [
      | inl l ↦ omega (arith, slot_own w p l)
      | inr l ↦ omega (arith, slot_shared w p l)
    ]
