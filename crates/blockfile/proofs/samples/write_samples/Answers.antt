-- What is left of the samples, written, gives all of them. Assumes nothing.
use Prim.Native.Nat.{◌<◌}
use mathlib.Core.Path.{sym, ap, ◌∙◌}
use native.Mathlib.Omega.{arith}
use mathlib.Core.List.{append-nil}
use lib.ListN.{take, length-set, drop_of_length-le}
use lib.Seq.{length-take-le}
use mir.Syntax.{w16}
use mir.ValLaws.{to_z-of_z}
use Rattle.basics.proofs.Stores.{store_next, store_none, sets_front}
use Rattle.blockfile.specs.Format.{signed}
use Rattle.blockfile.proofs.Left.{samples_left, no_samples_left}
use Rattle.blockfile.proofs.Outcome.{samples_long}
use Rattle.blockfile.proofs.samples.write_samples.Goals as goal

pub loop-i-preserved : goal.loop-i-preserved
loop-i-preserved c =
    let v = c.loop-i.invariant in
    let read = to_z-of_z w16 _ (record { sfits = c.signed.type_inv }) ∙ c.signed.ensures ∙ ap signed c.two_at.ensures in
    let more : c.loop-i.i < c.args.n = omega (arith, length-take-le c.args.n c.args.samples.now) in
    (simp length-set v.0, rw read (sym (store_next _ _ (samples_left _ _ _ more)) ∙ v.1))

pub returns : goal.returns
returns c =
    let v = c.loop-i.invariant in
    let long = samples_long c.args.bytes.now 3 c.args.n in
    let part = length-take-le c.args.n c.args.samples.now (omega arith) in
    let all = sym (store_none _ _ (no_samples_left _ _ _ _ (omega arith))) ∙ v.1 ∙ sets_front _ _ long (omega arith) in
    rw (all, drop_of_length-le (take c.args.n c.args.samples.now) {i = c.args.n} (omega arith), append-nil)
    (sym (sets_front _ _ long (omega arith)))
