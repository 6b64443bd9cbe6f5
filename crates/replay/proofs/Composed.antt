-- A recorded call, replayed and compared, by the parts that the code does one after the other. Assumes nothing.
use Prim.Native.Nat.{ℕ, ◌+◌, ◌-◌}
use native.Mathlib.Omega.{arith}
use mathlib.Core.Path.{◌≡◌, refl, sym, ap, ◌∙◌}
use mathlib.Core.Bool.{Bool, true, false, not}
use mathlib.Core.List.{List, ◌++◌, append-nil}
use lib.IntN.{ℤ}
use lib.ListN.{length, take, drop, replicate, drop_of_length-le}
use lib.Seq.{sets}
use Rattle.basics.proofs.Stores.{sets_front}
use Rattle.basics.proofs.Test.{All₃}
use Rattle.moving.specs.Block.{block_of}
use Rattle.filling.specs.Fill.{fill}
use Rattle.yakuemi.specs.Measures.{sizes}
use Rattle.blockfile.specs.Format.{one_at, four_at, file_sizes, samples_from}
use Rattle.blockfile.proofs.Outcome.{samples_long}
use Rattle.replay.specs.declared.Lengths.{Lengths}
use Rattle.comparison.specs.program.Same.{same, untouched, ids_from, same_answer}
use Rattle.replay.specs.program.Fills.{
  lengths_of,
  answer_of,
  cuts_at,
  state_at,
  ids_at,
  fits,
  block_with,
  replayed,
  stated_tables,
  agrees_with,
  fill_agrees,
}

-- a table of n samples, all of them written
pub written : (body : List ℕ) (n : ℕ) (before : List ℤ) {after : List ℤ} → length before ≡ n → after ≡ sets before 0 (samples_from body 3 n)
    → after ≡ samples_from body 3 n
written body n before l e =
    e
    ∙ (sets_front before (samples_from body 3 n) (samples_long body 3 n) (omega arith)
    ∙ (ap (λ (r : List ℤ). samples_from body 3 n ++ r) (drop_of_length-le before {i = n} (omega arith)) ∙ append-nil _))

-- a test that the code asks the other way round
pub not_so : (b : Bool) → not b ≡ true → b ≡ false
not_so true e = sym e
not_so false e = refl

-- a part that the code takes by its two ends
pub part_is : (bytes : List ℕ) (a n : ℕ) → take (a + n - a) (drop a bytes) ≡ take n (drop a bytes)
part_is bytes a n = let e : a + n - a ≡ n = omega arith in rw e

pub block_is : (body : List ℕ) (l : Lengths) {nx ny nz : ℕ} {samples : List ℤ} → nx ≡ one_at body 0 → ny ≡ one_at body 1 → nz ≡ one_at body 2
    → block_of (sizes nx ny nz) samples (take (cuts_at l + l.cuts - cuts_at l) (drop (cuts_at l) body)) ≡ block_with body l samples
unfolding block_with file_sizes
block_is body l x y z = rw (x, y, z, part_is body (cuts_at l) l.cuts) refl

module _ (head body : List ℕ) (l : Lengths) where
  pub replay_is : {samples : List ℤ} {state rows : List ℕ} → samples ≡ samples_from body 3 l.samples
      → state ≡ replicate l.state (one_at head 28) → rows ≡ replicate l.rows (four_at head 28)
      → fill 0 (block_with body l samples) state rows ≡ replayed head body l
  unfolding replayed
  replay_is s t r = rw (s, t, r) refl

  -- the tables: three tests
  pub tables_are : (state rows : List ℕ)
      → All₃ (stated_tables head body l state rows) (same state (take l.state (drop (state_at l) body)))
      (same (take l.ids rows) (ids_from body (ids_at l) l.ids)) (untouched (four_at head 28) (drop l.ids rows))
  unfolding stated_tables
  tables_are state rows = record { is = refl }

  -- the answer, then the tables
  pub answer_differs : {f : Bool} → f ≡ same_answer (replayed head body l).answer (answer_of head) → f ≡ false
      → false ≡ agrees_with head body l
  unfolding agrees_with
  answer_differs r d = rw (← r, d) refl

  pub tables_decide : {f g : Bool} → f ≡ same_answer (replayed head body l).answer (answer_of head) → f ≡ true
      → g ≡ stated_tables head body l (replayed head body l).state (replayed head body l).rows → g ≡ agrees_with head body l
  unfolding agrees_with
  tables_decide r d t = rw (← r, d) t

  -- the head, then the call
  module _ (samples state rows : ℕ) {f : Bool} (e : l ≡ lengths_of head) (r : f ≡ fits l (length body) samples state rows) where
    pub misfit : f ≡ false → false ≡ fill_agrees head body samples state rows
    unfolding fill_agrees
    misfit d = rw (← e, ← r, d) refl

    pub call_decides : {g : Bool} → f ≡ true → g ≡ agrees_with head body l → g ≡ fill_agrees head body samples state rows
    unfolding fill_agrees
    call_decides d t = rw (← e, ← r, d) t
