-- What follows the held bytes changes nothing that is read in them: a number, samples, runs, cut bytes, the end of a file,
-- and a file that is held whole. Assumes nothing.
use Prim.Native.Nat.{ℕ, zero, suc, ◌+◌, ◌*◌, ◌-◌, ◌<◌, ◌≤◌}
use native.Mathlib.Omega.{arith}
use mathlib.Core.Path.{◌≡◌, refl, sym, ap, ap₂, ◌∙◌}
use mathlib.Core.List.{List, [], ◌∷◌, ◌++◌}
use lib.IntN.{ℤ}
use lib.ListN.{length, get_or, take, drop, length-append, length-drop, get_or-append}
use lib.Seq.{take-append-le, drop-append-le}
use lib.Dec.{leb}
use borrow.Author.Tests.{le-leb}
use Rattle.lattice.specs.declared.Sizes.{Sizes}
use Rattle.lattice.specs.Counts.{points}
use Rattle.blockfile.specs.declared.Run.{Run}
use Rattle.blockfile.specs.Format.{
  signed,
  lengths,
  two_at,
  four_at,
  file_sizes,
  samples_from,
  run_at,
  runs_from,
  cuts_from,
  headers,
  run_count,
  file_runs,
  first_byte,
  end,
  file_cuts,
  well_formed,
  taken,
  read_body,
}
use Rattle.blockfile.proofs.Parts.{first_end}

module _ (bytes later : List ℕ) where
  -- all of the input, of which `bytes` are held
  abbrev input : List ℕ
  input = bytes ++ later

  byte_same : (i : ℕ) → i < length bytes → get_or input i 0 ≡ get_or bytes i 0
  byte_same i h = get_or-append bytes later 0 i h

  two_same : (i : ℕ) → i + 2 ≤ length bytes → two_at input i ≡ two_at bytes i
  unfolding two_at
  two_same i h = rw (byte_same i (omega arith), byte_same (i + 1) (omega arith)) refl

  pub sizes_same : 3 ≤ length bytes → file_sizes input ≡ file_sizes bytes
  unfolding file_sizes
  sizes_same h = rw (byte_same 0 (omega arith), byte_same 1 (omega arith), byte_same 2 (omega arith)) refl

  samples_same : (i n : ℕ) → i + 2 * n ≤ length bytes → samples_from input i n ≡ samples_from bytes i n
  unfolding samples_from
  samples_same i zero h = refl
  samples_same i (suc n) h = ap₂ ◌∷◌ (ap signed (two_same i (omega arith))) (samples_same (i + 2) n (omega arith))

  run_same : (i : ℕ) → i + 6 ≤ length bytes → run_at input i ≡ run_at bytes i
  unfolding run_at four_at
  run_same i h = rw (two_same i (omega arith), two_same (i + 2) (omega arith), two_same (i + 4) (omega arith)) refl

  runs_same : (i n : ℕ) → i + 6 * n ≤ length bytes → runs_from input i n ≡ runs_from bytes i n
  unfolding runs_from
  runs_same i zero h = refl
  runs_same i (suc n) h = ap₂ ◌∷◌ (run_same i (omega arith)) (runs_same (i + 6) n (omega arith))

  part_same : (i n : ℕ) → i + n ≤ length bytes → take n (drop i input) ≡ take n (drop i bytes)
  part_same i n h =
      ap (take n) (drop-append-le i bytes later (omega arith))
      ∙ take-append-le n (drop i bytes) later (omega (arith, length-drop i bytes))

  cuts_same : (total k i : ℕ) (rs : List Run) → i + lengths rs ≤ length bytes
      → cuts_from input total k i rs ≡ cuts_from bytes total k i rs
  unfolding cuts_from lengths
  cuts_same total k i [] h = refl
  cuts_same total k i (r ∷ rs) h =
      let next = cuts_same total (r.offset + r.length) (i + r.length) rs (omega arith) in
      rw (part_same i r.length (omega arith), next) refl

  -- a file of n points
  module _ (n : ℕ) where
    pub count_same : headers bytes n ≤ length bytes → run_count input n ≡ run_count bytes n
    count_same h = two_same (3 + 2 * n) (omega arith)

    file_runs_same : first_byte bytes n ≤ length bytes → file_runs input n ≡ file_runs bytes n
    file_runs_same h = rw (count_same (omega arith)) (runs_same (headers bytes n) (run_count bytes n) h)

    pub end_same : first_byte bytes n ≤ length bytes → end input n ≡ end bytes n
    unfolding end
    end_same h = rw (file_runs_same h, count_same (omega arith)) refl

    -- held whole
    module _ (h : end bytes n ≤ length bytes) where
      first_held : first_byte bytes n ≤ length bytes
      first_held = omega (arith, first_end bytes n)

      file_cuts_same : file_cuts input n ≡ file_cuts bytes n
      unfolding file_cuts end
      file_cuts_same =
          rw (file_runs_same first_held, count_same (omega (arith, first_held)))
          (cuts_same (7 * n) 0 (first_byte bytes n) (file_runs bytes n) h)

      long_same : leb (end input n) (length input) ≡ leb (end bytes n) (length bytes)
      long_same =
          le-leb (end input n) (length input) (omega (arith, end_same first_held, length-append bytes later))
          ∙ sym (le-leb (end bytes n) (length bytes) h)

      well_same : well_formed input n ≡ well_formed bytes n
      unfolding well_formed
      well_same =
          rw (
            long_same,
            end_same first_held,
            file_runs_same first_held,
            count_same (omega (arith, first_held)),
            part_same (first_byte bytes n) (end bytes n - first_byte bytes n) (omega (arith, first_end bytes n)),
          ) refl

  pub body_same : (samples : List ℤ) (cuts : List ℕ) (s : Sizes) → end bytes (points s) ≤ length bytes
      → read_body input samples cuts s ≡ read_body bytes samples cuts s
  unfolding read_body taken
  body_same samples cuts s h =
      let n = points s in
      let first = first_held n h in
      rw (well_same n h, end_same n first, file_cuts_same n h, samples_same 3 n (omega arith)) refl
