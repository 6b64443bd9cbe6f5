-- A window marked, its ids asked one by one, and counted on. Assumes nothing.
use Prim.Native.Nat.{ℕ, ◌+◌, ◌*◌}
use native.Mathlib.Omega.{arith}
use mathlib.Core.Path.{◌≡◌, ap}
use lib.ListN.{length}
use Rattle.basics.proofs.Search.{count_le}
use Rattle.bitmap.specs.inner.Bits.{marked}
use Rattle.windows.specs.inner.Windows.{window}
use Rattle.nodes.proofs.Surveying.{found}
use Rattle.nodes.proofs.survey.survey_window.Goals as goal

pub overflow_add-result : goal.overflow_add-result
overflow_add-result c =
    let bits = c.mark_window.new.bits.words in
    record { fits = omega (arith, c.count.ensures, count_le (marked bits) window) }

pub returns-clause-found : goal.returns-clause-found
returns-clause-found c =
    let bits = c.mark_window.new.bits.words in
    let all = c.bits_placed.ensures.all_placed c.if-not-bits_placed.false in
    let long : 64 * length bits ≡ window = omega arith in
    found c.args.w.index c.mark_window.ensures (rw (c.first_id.ensures, long) at all)
    (ap (λ (n : ℕ). c.args.total + n) c.count.ensures)
