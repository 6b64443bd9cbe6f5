-- Document 01's given case: its bytes read to its block, what lies beyond in the lent tables stays, and the block is written as these
-- bytes. Assumes nothing.
use mathlib.Core.Path.{◌≡◌, refl}
use mathlib.Core.List.{◌++◌}
use Rattle.casebook.specs.cases.Given.{laid, laid_runs, given_samples, given_cuts, unchanged, changed}
use Rattle.blockfile.specs.Format.{read}
use Rattle.blockfile.specs.inner.Write.{write}
use Rattle.blockfile.specs.cases.Examples.{given_file, lent_samples, lent_cuts}
use Rattle.blockfile.proofs.Opened.{format}
use Rattle.fill_file.specs.program.Summary.{bench_limit, bench_points, bench_cuts}

pub given_reads : read given_file bench_limit (lent_samples bench_points) (lent_cuts bench_cuts)
    ≡ record {
      answer = record { number = 0; nx = 2; ny = 2; nz = 2; end = 137 };
      samples = given_samples ++ lent_samples 306;
      cuts = given_cuts ++ lent_cuts 2142;
    }
unfolding format given_file laid laid_runs given_samples given_cuts
given_reads = refl

pub given_written : write (changed unchanged) ≡ given_file
unfolding format given_file laid laid_runs given_samples given_cuts changed
given_written = refl
