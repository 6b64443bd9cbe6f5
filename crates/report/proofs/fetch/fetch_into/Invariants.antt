-- Each turn asks for what is needed, and takes no byte that is not held.
use Rattle.std.proofs.Common.{◌-◌, length, take}
use Rattle.std.specs.Io.KnownBytes.{Consumes}
use Rattle.report.proofs.Fetching.{Fetching}
use Rattle.report.proofs.fetch.fetch_into.Given as goal

abbrev pub invariant-loop-held : goal.invariant-loop-held
invariant-loop-held g l =
    Fetching 5 (length l.initial.bytes) l.held l.bytes
    × Consumes (g.R.Read.remaining l.initial.input) (g.R.Read.remaining l.input) (take l.held l.bytes)

abbrev pub decreases-loop-held : goal.decreases-loop-held
decreases-loop-held g l = length l.initial.bytes - l.held
