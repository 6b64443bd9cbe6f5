-- Every definition that reading and writing rest on, opened by one name: a computed fact says `unfolding format`. Assumes nothing.
use Rattle.basics.specs.Lists.{gather}
use Rattle.lattice.specs.Counts.{sizes_fit, cells, points}
use Rattle.blockfile.specs.Format.{
  signed,
  run_fits,
  fit,
  lengths,
  no_zero,
  two_at,
  four_at,
  file_sizes,
  samples_from,
  run_at,
  runs_from,
  cuts_from,
  end,
  file_cuts,
  well_formed,
  beyond,
  refusal,
  taken,
  read_body,
  read,
  read_whole,
}
use Rattle.blockfile.specs.inner.Write.{two_bytes, four_bytes, unsigned, sample_bytes, header, joined, runs_of, listed, write}

unfoldable pub format : Unit {0}
unfolding
    gather sizes_fit cells points
    signed run_fits fit lengths no_zero two_at four_at file_sizes samples_from run_at runs_from cuts_from end file_cuts well_formed beyond
    refusal taken read_body read read_whole
    two_bytes four_bytes unsigned sample_bytes header joined runs_of listed write
format = tt
