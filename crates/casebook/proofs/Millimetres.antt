-- Document 02's F-1 on the given case: numbers and coordinates come out as separate software recorded them, bit for bit. Assumes nothing.
use mathlib.Core.Path.{◌≡◌, refl}
use mathlib.Core.List.{map}
use lib.Ieee.{of_int, mul, le, of_bits}
use Rattle.metric.specs.Millimetres.{unit_fits, scaled, metric, in_millimetres, locate_mm}
use Rattle.metric.specs.cases.Bits.{in_bits}
use Rattle.casebook.specs.cases.Given.{laid, laid_runs, given_cuts}
use Rattle.casebook.specs.cases.Metric.{answered}
use Rattle.casebook.specs.cases.Millimetres.{millimetres}
use Rattle.casebook.proofs.Opened.{definitions}

pub millimetres_come_out : map answered millimetres ≡ map (λ q. q.answer) millimetres
unfolding
    definitions laid laid_runs given_cuts
    of_int mul le of_bits unit_fits scaled metric in_millimetres locate_mm in_bits answered millimetres
millimetres_come_out = refl
