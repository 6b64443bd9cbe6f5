-- No part is hit where the search finds none. Assumes nothing.
use Prim.Native.Nat.{◌+◌, ◌/◌}
use native.Mathlib.Omega.{arith}
use mathlib.Core.Path.{◌≡◌, refl}
use mathlib.Core.Bool.{false}
use Rattle.std.proofs.Common.{rules, tests}
use Rattle.std.proofs.lemmas.Iterator.{cases_from_any, YieldsList-from_range}
use Rattle.bitmap.specs.inner.Bits.{marked}
use Rattle.windows.specs.inner.Windows.{part, slot}
use Rattle.windows.proofs.Missing.{missed_all}
use Rattle.windows.proofs.hits.Hits.is_hit.Goals as goal

pub returns : goal.returns
returns c =
    let hits = c.args.self.now.bits.words in
    let parts = c.args.n / part + 1 in
    λ e.
    let found = cases_from_any _ _ _ (λ p. Unit {0}) (λ p. marked hits (slot c.args.w.index p) ≡ false)
    c.any.ensures.ran (YieldsList-from_range 0 parts parts refl (omega arith))
    (λ p q k. tt) (λ p q k. search (rules, tests)) in
    missed_all c.args.n (rw e at found)
