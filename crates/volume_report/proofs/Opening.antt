-- What is known of a file that was read, and of its block once it is filled: enough to measure it. Assumes nothing.
use Prim.Native.Nat.{ℕ, ◌*◌, ◌≤◌}
use native.Mathlib.Omega.{arith}
use mathlib.Core.Path.{◌≡◌, refl, sym, ap, ◌∙◌}
use mathlib.Core.Logic.{inl}
use mathlib.Core.Bool.{Bool, true, false}
use mathlib.Core.List.{List}
use lib.IntN.{ℤ, pos}
use lib.ListN.{length, take, drop, replicate, length-append}
use lib.Seq.{take_at}
use lib.Dec.{eqb}
use borrow.Author.Tests.{eq-eqb, eqb-true}
use Rattle.std.specs.Prelude.{if◌then◌else◌}
use Rattle.lattice.specs.declared.Sizes.{Sizes}
use Rattle.lattice.specs.Counts.{points}
use Rattle.moving.specs.Block.{Block, Bytes, block_of, reading_of}
use Rattle.moving.specs.Moving.{state_of}
use Rattle.moving.proofs.Moved.{state_reached}
use Rattle.geometry.specs.Place.{place_of}
use Rattle.filling.specs.declared.Filled.{Filled}
use Rattle.filling.specs.Mesh.{row_volume}
use Rattle.filling.specs.Demand.{rows_read}
use Rattle.filling.specs.Fill.{fill}
use Rattle.filling.proofs.Accepted.{Passed, passed_all}
use Rattle.filling.proofs.Written.{rows_counted, state_written}
use Rattle.boundary.specs.Sum.{sum}
use Rattle.boundary.specs.Boundary.{boundary_faces, face_volume}
use Rattle.boundary.proofs.Theorems.{volume_enclosed}
use Rattle.bounds.proofs.Amount.{bench_rows_law}
use Rattle.sums.specs.inner.Measured.{Measured}
use Rattle.sums.proofs.Filled.{filled_measured}
use Rattle.blockfile.specs.Format.{Read, read_sizes, taken, read}
use Rattle.blockfile.proofs.Outcome.{samples_long, file_cuts_long}
use Rattle.blockfile.proofs.Longest.{Limited, limited}
use Rattle.blockfile.proofs.Checked.{Readable, readable_as}
use Rattle.blockfile.proofs.CutBytes.{bytes_front}
use Rattle.fill_file.specs.program.Summary.{Summary, bench_limit, bench_points, bench_cuts, bench_rows, refusal, counted, fill_read}
use Rattle.bounds.specs.inner.Most.{rows_most}

-- what is summed up of filling's answer
counted_0 : (s : Sizes) (f : Filled) → (counted s f).number ≡ 0 → f.number ≡ 0
unfolding counted refusal
counted_0 s f e = go (eqb f.number 0) _ refl e
  where
    go : (t : Bool) (a : Summary) → eqb f.number 0 ≡ t → (if t then a else refusal f.number f.place).number ≡ 0
        → f.number ≡ 0
    go true a g z = eqb-true f.number 0 g
    go false a g z = z

counted_rows : (s : Sizes) (f : Filled) → f.number ≡ 0 → (counted s f).emitted ≡ f.rows
unfolding counted
counted_rows s f e = rw (eq-eqb f.number 0 e) refl

-- the tables before a file is read and its block filled
abbrev pub blank : List ℤ
blank = replicate bench_points (pos 0)

abbrev pub uncut : List ℕ
uncut = replicate bench_cuts 0

abbrev pub unmoved : List ℕ
unmoved = replicate bench_points 0

abbrev pub empty : List ℕ
empty = replicate bench_rows 0

-- the answer and the tables of reading, as the code holds them
pub record Opens (bytes : List ℕ) (r : Read) (samples : List ℤ) (cuts : List ℕ) : Type 0 where
  pub answer : r ≡ (read bytes bench_limit blank uncut).answer
  pub samples_are : samples ≡ (read bytes bench_limit blank uncut).samples
  pub cuts_are : cuts ≡ (read bytes bench_limit blank uncut).cuts

pub opens : {bytes : List ℕ} {r : Read} {samples : List ℤ} {cuts : List ℕ} → r ≡ (read bytes bench_limit blank uncut).answer
    → samples ≡ (read bytes bench_limit blank uncut).samples → cuts ≡ (read bytes bench_limit blank uncut).cuts → Opens bytes r samples cuts
opens e f g = record { answer = e; samples_are = f; cuts_are = g }

module _ {bytes : List ℕ} {r : Read} {samples : List ℤ} {cuts : List ℕ} (w : Opens bytes r samples cuts) (e : r.number ≡ 0) where
  abbrev n : ℕ
  n = points (read_sizes r)

  read_as : Readable bytes bench_limit blank uncut (read_sizes r)
  read_as = readable_as bytes bench_limit blank uncut w.answer e

  -- the tables hold the block
  pub opened_samples : n ≤ length samples
  unfolding taken
  opened_samples = rw (w.samples_are, read_as.is, length-append) (omega (arith, samples_long bytes 3 n))

  pub opened_cuts : 7 * n ≤ length cuts
  unfolding taken
  opened_cuts = rw (w.cuts_are, read_as.is, length-append) (omega (arith, file_cuts_long bytes n read_as.well))

  within : Limited bench_limit (read_sizes r)
  within = limited bench_limit (read_sizes r) read_as.within

  -- the block that was read, and its filling
  abbrev block : Block
  block = block_of (read_sizes r) (take n samples) (take (7 * n) cuts)

  module _ {f : Summary} {state rows : List ℕ}
      (answer : f ≡ (fill_read (read_sizes r) samples cuts unmoved empty).answer)
      (state_is : state ≡ (fill_read (read_sizes r) samples cuts unmoved empty).state)
      (rows_are : rows ≡ (fill_read (read_sizes r) samples cuts unmoved empty).rows) (z : f.number ≡ 0) where
    filled_0 : (fill 0 block (take n unmoved) empty).answer.number ≡ 0
    unfolding fill_read
    filled_0 = counted_0 (read_sizes r) _ (sym (ap (λ (f : Summary). f.number) answer) ∙ z)

    passed : Passed 0 block (take n unmoved) empty
    passed = passed_all 0 block (take n unmoved) empty 0 (inl refl) filled_0

    emitted_is : f.emitted ≡ (fill 0 block (take n unmoved) empty).answer.rows
    unfolding fill_read
    emitted_is = ap (λ (f : Summary). f.emitted) answer ∙ counted_rows (read_sizes r) _ filled_0

    state_long : length (fill 0 block (take n unmoved) empty).state ≡ n
    state_long =
        rw (state_written 0 block (take n unmoved) empty passed.accepted passed.state_long)
        (state_reached (reading_of 0 block)).long

    state_front : take n state ≡ (fill 0 block (take n unmoved) empty).state
    unfolding fill_read
    state_front = rw state_is (take_at _ (drop n unmoved) n state_long)

    few : (fill 0 block (take n unmoved) empty).answer.rows ≤ rows_most
    few =
        rw (rows_counted 0 block (take n unmoved) empty passed.accepted passed.state_long)
        (bench_rows_law (reading_of 0 block) (state_of (reading_of 0 block)) within.x within.y within.z)

    pub filled_few : f.emitted ≤ rows_most
    filled_few = rw emitted_is few

    pub filled_state : n ≤ length state
    unfolding fill_read
    filled_state = rw (state_is, length-append) (omega (arith, state_long))

    pub filled_ready : Bytes cuts → Measured (read_sizes r) (take (7 * n) cuts) (take n state) rows f.emitted
    unfolding fill_read
    filled_ready bytes =
        rw (state_front, rows_are, emitted_is)
        (filled_measured 0 block (take n unmoved) empty (bytes_front (7 * n) cuts bytes) filled_0 (omega (arith, few)))

    -- what the rows' six-volumes add up to is what the boundary encloses
    pub filled_encloses : Bytes cuts
        → let place = place_of (read_sizes r) (take (7 * n) cuts) (take n state) in
        let mesh = rows_read rows f.emitted in
        sum (row_volume place) mesh ≡ sum (face_volume place) (boundary_faces mesh)
    unfolding fill_read
    filled_encloses bytes =
        rw (state_front, rows_are, emitted_is)
        (volume_enclosed 0 block (take n unmoved) empty (bytes_front (7 * n) cuts bytes) filled_0)
