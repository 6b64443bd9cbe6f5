-- The loop's invariant: the answers in the directions before d. Assumes nothing.
use Rattle.labelling.specs.inner.Scans.{label_in}
use Rattle.checks.proofs.Edges.{Marked}
use Rattle.checks.proofs.crossing.crossings.Given as goal

abbrev pub invariant-loop-d : goal.invariant-loop-d
invariant-loop-d l = Marked l.scan.lattice.sizes (label_in l.scan) l.q.own l.must l.d
