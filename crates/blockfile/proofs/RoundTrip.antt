-- A block that is written as a file is read back, whatever follows the file: the answer says where the file ends, the tables hold
-- the block. Assumes nothing.
use Prim.Native.Nat.{ℕ, ◌+◌, ◌*◌, ◌-◌, ◌%◌, ◌≤◌}
use native.Mathlib.Omega.{arith}
use mathlib.Core.Path.{◌≡◌, refl, sym, ap, ◌∙◌}
use mathlib.Core.Bool.{true}
use mathlib.Core.List.{List, ◌++◌}
use lib.IntN.{ℤ}
use lib.ListN.{length, take, drop, length-append}
use lib.Seq.{take_at}
use Rattle.basics.specs.Lists.{gather}
use Rattle.lattice.specs.Counts.{points}
use Rattle.lattice.proofs.Bounds.{points_small}
use Rattle.lattice.proofs.Sized.{sized_fits}
use Rattle.moving.specs.Block.{Block}
use Rattle.blockfile.specs.declared.Run.{Run}
use Rattle.blockfile.specs.Format.{fit, lengths, no_zero, runs_from, run_count, file_runs, first_byte, end, file_cuts}
use Rattle.blockfile.specs.Format.{file_sizes, samples_from, well_formed, taken, read}
use Rattle.blockfile.specs.inner.Write.{two_bytes, sample_bytes, header, runs_of, listed, write, Writable}
use Rattle.blockfile.proofs.Stands.{
  Stands,
  stands_first,
  stands_second,
  two_long,
  two_back,
  samples_bytes,
  samples_back,
  headers_bytes,
  runs_back,
}
use Rattle.blockfile.proofs.Rows.{table_fits, table_lengths, listed_full, table_back}
use Rattle.blockfile.proofs.Parts.{all_fit}
use Rattle.blockfile.proofs.Outcome.{taken_is, go_on}

-- the parts of a file, and the places at which they stand
module _ (b : Block) (rest : List ℕ) where
  abbrev file : List ℕ
  file = write b ++ rest

  abbrev runs : List Run
  runs = runs_of 0 b.cuts

  abbrev samples_part : List ℕ
  samples_part = gather sample_bytes b.samples

  abbrev headers_part : List ℕ
  headers_part = gather header runs

  abbrev bytes_part : List ℕ
  bytes_part = listed b.cuts

  module _ {n : ℕ} (e : length b.samples ≡ n) where
    samples_stand : Stands file 3 (samples_part ++ (two_bytes (length runs) ++ (headers_part ++ bytes_part))) rest
    unfolding write
    samples_stand = record { is = refl }

    count_stands : Stands file (3 + 2 * n) (two_bytes (length runs) ++ (headers_part ++ bytes_part)) rest
    count_stands = stands_second samples_part _ samples_stand (2 * n) (omega (arith, samples_bytes b.samples))

    headers_stand : Stands file (5 + 2 * n) (headers_part ++ bytes_part) rest
    headers_stand =
        let m : 3 + 2 * n + 2 ≡ 5 + 2 * n = omega arith in
        rw m at (stands_second (two_bytes (length runs)) _ count_stands 2 (two_long (length runs)))

    bytes_stand : Stands file (5 + 2 * n + 6 * length runs) bytes_part rest
    bytes_stand = stands_second headers_part bytes_part headers_stand (6 * length runs) (headers_bytes runs)

    file_long : length file ≡ 5 + 2 * n + 6 * length runs + length bytes_part + length rest
    unfolding write
    file_long = simp length-append (omega (arith, samples_bytes b.samples, two_long (length runs), headers_bytes runs))

module _ (limit : ℕ) (b : Block) (u : Writable limit b) (rest : List ℕ) where
  abbrev n : ℕ
  n = points b.sizes

  long : length b.samples ≡ n
  long = u.tabled.samples_long

  runs_fit : fit (7 * n) 0 (runs b rest) ≡ true
  runs_fit = table_fits (7 * n) 0 b.cuts (omega (arith, u.tabled.cuts_long))

  count_is : run_count (file b rest) n ≡ length (runs b rest)
  count_is =
      let few = u.few_runs in
      let s : length (runs b rest) % 65536 ≡ length (runs b rest) = omega arith in
      two_back (length (runs b rest)) (stands_first _ _ (count_stands b rest long)) ∙ s

  runs_are : file_runs (file b rest) n ≡ runs b rest
  runs_are =
      let h = points_small b.sizes u.tabled.sized in
      rw count_is
      (runs_back (7 * n) 0 (runs b rest) (omega arith) runs_fit u.short_runs (stands_first _ _ (headers_stand b rest long)))

  first_is : first_byte (file b rest) n ≡ 5 + 2 * n + 6 * length (runs b rest)
  first_is = ap (λ (m : ℕ). 5 + 2 * n + 6 * m) count_is

  end_is : end (file b rest) n ≡ 5 + 2 * n + 6 * length (runs b rest) + length (listed b.cuts)
  unfolding end
  end_is = omega (arith, first_is, ap lengths runs_are, table_lengths 0 b.cuts)

  samples_are : samples_from (file b rest) 3 n ≡ b.samples
  samples_are = rw (← long) (samples_back b.samples u.narrow_samples (stands_first _ _ (samples_stand b rest refl)))

  cuts_are : file_cuts (file b rest) n ≡ b.cuts
  unfolding file_cuts
  cuts_are =
      rw (runs_are, first_is)
      (table_back (file b rest) (7 * n) 0 _ b.cuts (omega (arith, u.tabled.cuts_long)) (bytes_stand b rest long))

  full : true ≡ no_zero (take (length (listed b.cuts)) (drop (5 + 2 * n + 6 * length (runs b rest)) (file b rest)))
  full = rw ((bytes_stand b rest long).is, take_at (listed b.cuts) rest (length (listed b.cuts)) refl) (sym (listed_full b.cuts))

  well : well_formed (file b rest) n ≡ true
  well =
      let first = 5 + 2 * n + 6 * length (runs b rest) in
      let m : first + length (listed b.cuts) - first ≡ length (listed b.cuts) = omega arith in
      let fits : true ≡ fit (7 * n) 0 (runs_from (file b rest) (5 + 2 * n) (length (runs b rest))) =
      sym (rw count_is at (ap (fit (7 * n) 0) runs_are ∙ runs_fit))
      in
      sym (all_fit (file b rest) n (sym count_is) (sym end_is) (omega (arith, file_long b rest long)) fits refl (rw m full))

  -- sizes are read back too; the file ends where the written block does
  stop_is : end (file b rest) n ≡ length (write b)
  stop_is = omega (arith, end_is, file_long b rest long, length-append (write b) rest)

  sizes_are : b.sizes ≡ file_sizes (file b rest)
  unfolding file_sizes write
  sizes_are = refl

  module _ (samples : List ℤ) (cuts : List ℕ) (room : n ≤ length samples) (roomy : 7 * n ≤ length cuts) where
    pub read_back : read (write b ++ rest) limit samples cuts
        ≡ record {
          answer = record { number = 0; nx = b.sizes.nx; ny = b.sizes.ny; nz = b.sizes.nz; end = length (write b) };
          samples = b.samples ++ drop n samples;
          cuts = b.cuts ++ drop (7 * n) cuts;
        }
    unfolding taken
    read_back =
        go_on (file b rest) limit samples cuts sizes_are (omega (arith, file_long b rest long))
        (sized_fits b.sizes u.tabled.sized) u.within
        ∙ taken_is (file b rest) samples cuts b.sizes refl room roomy well
        ∙ rw (samples_are, cuts_are, stop_is) refl
