-- What `read` is: a law for each refusal, in their order, and one for a block that is taken. The code holds the sizes and N in locals.
-- Assumes nothing.
use Prim.Native.Nat.{ℕ, ◌+◌, ◌*◌, ◌-◌, ◌<◌, ◌≤◌}
use native.Mathlib.Omega.{arith}
use mathlib.Core.Path.{◌≡◌, refl, ap}
use mathlib.Core.Bool.{true, false}
use mathlib.Core.List.{List, [], ◌∷◌}
use Rattle.std.specs.Prelude.{Ok, Err}
use lib.IntN.{ℤ}
use lib.ListN.{length, take, drop, replicate, length-append, length-replicate, length-drop}
use lib.Seq.{length-take-le}
use borrow.Author.Tests.{lt-ltb, le-ltb}
use Rattle.lattice.specs.declared.Sizes.{Sizes}
use Rattle.lattice.specs.Counts.{sizes_fit, points}
use Rattle.blockfile.specs.declared.Run.{Run}
use Rattle.blockfile.specs.Format.{
  Read,
  fit,
  lengths,
  samples_from,
  cuts_from,
  file_sizes,
  file_runs,
  first_byte,
  file_cuts,
  end,
  beyond,
  well_formed,
  Outcome,
  refused,
  taken,
  read_body,
  read,
}
use Rattle.blockfile.specs.inner.Answer.{answer_of}
use Rattle.refusals.specs.declared.Refusal.{Refusal}
use Rattle.refusals.specs.declared.Refusal.TheVariants.{Sizes as Refused, File, Room}
use Rattle.refusals.specs.inner.Numbers.{refusal_number}
use Rattle.blockfile.specs.declared.Loaded.{Loaded}
use Rattle.blockfile.specs.inner.Needs.{Opens, Shut, short, misfit, over}
use Rattle.blockfile.proofs.Fitting.{fit_head, fit_tail, fit_earlier}
use Rattle.blockfile.proofs.Parts.{well_formed_law}

-- a file of n points has n samples
pub samples_long : (bytes : List ℕ) (i n : ℕ) → length (samples_from bytes i n) ≡ n
unfolding samples_from
samples_long bytes i ℕ.zero = refl
samples_long bytes i (ℕ.suc n) = ap ℕ.suc (samples_long bytes (i + 2) n)

-- the cut table has as many bytes as it should
pub cuts_long : (bytes : List ℕ) (total k at : ℕ) (rs : List Run) → k ≤ total → fit total k rs ≡ true → at + lengths rs ≤ length bytes
    → length (cuts_from bytes total k at rs) ≡ total - k
unfolding cuts_from lengths
cuts_long bytes total k at [] h e f = length-replicate (total - k) 0
cuts_long bytes total k at (r ∷ rs) h e f =
    let w = fit_head total k r rs e in
    let gap : length (replicate {A = ℕ} (r.offset - k) 0) ≡ r.offset - k = length-replicate (r.offset - k) 0 in
    let part : length (take r.length (drop at bytes)) ≡ r.length =
    length-take-le r.length (drop at bytes) (rw length-drop (omega arith))
    in
    let rest : length (cuts_from bytes total (r.offset + r.length) (at + r.length) rs) ≡ total - (r.offset + r.length) =
    cuts_long bytes total (r.offset + r.length) (at + r.length) rs w.within
    (fit_earlier total (r.offset + r.length + 1) (r.offset + r.length) rs (omega arith) (fit_tail total k r rs e)) (omega arith)
    in
    simp length-append (omega arith)

pub file_cuts_long : (bytes : List ℕ) (n : ℕ) → well_formed bytes n ≡ true → length (file_cuts bytes n) ≡ 7 * n
unfolding file_cuts end
file_cuts_long bytes n e =
    let w = well_formed_law bytes n e in
    omega (arith, cuts_long bytes (7 * n) 0 (first_byte bytes n) (file_runs bytes n) (omega arith) w.fits w.long)

-- the answer of an outcome that is known, and of a refusal
pub answer_of_law : {o u : Outcome} {r : Read} → o ≡ u → r ≡ u.answer → r ≡ o.answer
answer_of_law e p = rw e p

module _ {samples : List ℤ} {cuts : List ℕ} {o : Outcome} where
  pub refused_sizes : o ≡ refused samples cuts 1 → answer_of (Err Refused) ≡ o.answer
  unfolding answer_of refusal_number
  refused_sizes p = answer_of_law p refl

  pub refused_file : o ≡ refused samples cuts 11 → answer_of (Err File) ≡ o.answer
  unfolding answer_of refusal_number
  refused_file p = answer_of_law p refl

  pub refused_room : o ≡ refused samples cuts 12 → answer_of (Err Room) ≡ o.answer
  unfolding answer_of refusal_number
  refused_room p = answer_of_law p refl

-- after the size bytes
module _ (bytes : List ℕ) (samples : List ℤ) (cuts : List ℕ) (s : Sizes) {n : ℕ} (p : n ≡ points s) where
  pub refuse_samples : length samples < n → read_body bytes samples cuts s ≡ refused samples cuts 12
  unfolding read_body
  refuse_samples h = simp (← p, lt-ltb (length samples) n h)

  module _ (room : n ≤ length samples) where
    pub refuse_cuts : length cuts < 7 * n → read_body bytes samples cuts s ≡ refused samples cuts 12
    unfolding read_body
    refuse_cuts h = simp (← p, le-ltb (length samples) n room, lt-ltb (length cuts) (7 * n) h)

    module _ (roomy : 7 * n ≤ length cuts) where
      pub refuse_file : well_formed bytes n ≡ false → read_body bytes samples cuts s ≡ refused samples cuts 11
      unfolding read_body
      refuse_file e = simp (← p, le-ltb (length samples) n room, le-ltb (length cuts) (7 * n) roomy, e)

      pub taken_is : well_formed bytes n ≡ true → read_body bytes samples cuts s ≡ taken bytes samples cuts s
      unfolding read_body
      taken_is e = simp (← p, le-ltb (length samples) n room, le-ltb (length cuts) (7 * n) roomy, e)

module _ (bytes : List ℕ) (samples : List ℤ) (cuts : List ℕ) (o : Loaded) {n : ℕ} (p : n ≡ points o.lattice.sizes) where
  pub taken_as : n ≤ length samples → 7 * n ≤ length cuts → well_formed bytes n ≡ true → o.end ≡ end bytes n
      → answer_of (Ok o) ≡ (read_body bytes samples cuts o.lattice.sizes).answer
  unfolding taken answer_of
  taken_as room roomy e h =
      let s = o.lattice.sizes in
      rw (taken_is bytes samples cuts s p room roomy e, ← p)
      (ap (λ (m : ℕ). record { number = 0; nx = s.nx; ny = s.ny; nz = s.nz; end = m }) h)

module _ (bytes : List ℕ) (limit : ℕ) (samples : List ℤ) (cuts : List ℕ) where
  pub refuse_short : length bytes < 3 → read bytes limit samples cuts ≡ refused samples cuts 11
  unfolding read
  refuse_short h = simp (lt-ltb (length bytes) 3 h)

  module _ {s : Sizes} (q : s ≡ file_sizes bytes) (long : 3 ≤ length bytes) where
    pub refuse_size : sizes_fit s ≡ false → read bytes limit samples cuts ≡ refused samples cuts 1
    unfolding read
    refuse_size e = simp (le-ltb (length bytes) 3 long, ← q, e)

    pub refuse_bench : sizes_fit s ≡ true → beyond limit s ≡ true → read bytes limit samples cuts ≡ refused samples cuts 12
    unfolding read
    refuse_bench f e = simp (le-ltb (length bytes) 3 long, ← q, f, e)

    pub go_on : sizes_fit s ≡ true → beyond limit s ≡ false → read bytes limit samples cuts ≡ read_body bytes samples cuts s
    unfolding read
    go_on f e = simp (le-ltb (length bytes) 3 long, ← q, f, e)

  -- the sizes are refused, or what follows them decides
  pub shut_is : {e : Refusal} → Shut bytes limit e → answer_of (Err e) ≡ (read bytes limit samples cuts).answer
  shut_is (short h) = refused_file (refuse_short h)
  shut_is (misfit h f) = refused_sizes (refuse_size refl h f)
  shut_is (over h f g) = refused_room (refuse_bench refl h f g)

  pub open_is : {s : Sizes} {r : Read} → Opens bytes limit s → r ≡ (read_body bytes samples cuts s).answer
      → r ≡ (read bytes limit samples cuts).answer
  open_is w = answer_of_law (go_on w.is w.long w.fits w.within)
