-- What is left of the samples, written, gives all of them. Assumes nothing.
use Prim.Native.Nat.{◌+◌, ◌*◌, ◌-◌}
use mathlib.Core.Path.{◌≡◌}
use lib.ListN.{length}
use lib.Seq.{sets}
use Rattle.blockfile.specs.Format.{samples_from}
use Rattle.blockfile.proofs.samples.write_samples.Given as goal

abbrev pub invariant-loop-i : goal.invariant-loop-i
invariant-loop-i l =
    (length l.sample-items ≡ l.n)
    × (sets l.sample-items l.i (samples_from l.bytes (3 + 2 * l.i) (l.n - l.i)) ≡ sets l.initial.sample-items 0 (samples_from l.bytes 3 l.n))
