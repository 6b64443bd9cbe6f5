-- What the checks have shown where they answer 0, that all else is a refusal, and what follows of a whole file.
-- Assumes nothing.
use Prim.Native.Nat.{ℕ, ◌*◌, ◌<◌, ◌≤◌}
use native.Mathlib.Omega.{arith}
use mathlib.Core.Path.{◌≡◌, refl, sym, ap, ◌∙◌}
use mathlib.Core.Bool.{Bool, true, false, not, ◌&&◌}
use mathlib.Core.List.{List, ◌++◌}
use lib.IntN.{ℤ}
use lib.ListN.{length, drop, length-append}
use lib.Seq.{sets}
use lib.Dec.{ltb, eqb}
use borrow.Author.Tests.{lt-ltb, le-ltb, ltb-false, eq-eqb, ne_eqb, not-false}
use Rattle.std.specs.Prelude.{if◌then◌else◌, Ok, Err}
use Rattle.basics.proofs.Stores.{sets_front}
use Rattle.lattice.specs.declared.Sizes.{Sizes}
use Rattle.lattice.specs.Counts.{Sized, sizes_fit, points, most_points}
use Rattle.lattice.proofs.Sized.{fits_sized}
use Rattle.lattice.proofs.Bounds.{points_small}
use Rattle.blockfile.specs.Format.{
  Read,
  samples_from,
  file_sizes,
  file_cuts,
  beyond,
  well_formed,
  Outcome,
  refusal,
  read_sizes,
  refused,
  taken,
  read_body,
  read,
  read_whole,
}
use Rattle.blockfile.specs.inner.Answer.{answer_of}
use Rattle.refusals.specs.declared.Refusal.{Refusal}
use Rattle.refusals.specs.declared.Refusal.TheVariants.{Sizes as Refused, Samples, Cuts, State, Rim, Gap, Stray}
use Rattle.refusals.specs.declared.Refusal.TheVariants.{Id, Move, File, Room, Unit, Band, Quads}
use Rattle.refusals.specs.inner.Numbers.{refusal_number}
use Rattle.blockfile.specs.declared.Loaded.{Loaded}
use Rattle.blockfile.proofs.Outcome.{samples_long, file_cuts_long}

-- the answer and both tables of an outcome
abbrev pub Is : Outcome → Read → List ℤ → List ℕ → Type 0
Is o r samples cuts = (r ≡ o.answer) × ((samples ≡ o.samples) × (cuts ≡ o.cuts))

pub is_of : {o u : Outcome} {r : Read} {samples : List ℤ} {cuts : List ℕ} → o ≡ u → Is u r samples cuts → Is o r samples cuts
is_of e w = rw e w

-- no refusal has the number 0
pub no_zero : (e : Refusal) → (answer_of (Err e)).number ≡ 0 → ⊥
unfolding answer_of refusal_number refusal
no_zero Refused h = omega arith
no_zero Samples h = omega arith
no_zero Cuts h = omega arith
no_zero State h = omega arith
no_zero (Rim p) h = omega arith
no_zero (Gap p) h = omega arith
no_zero (Stray p) h = omega arith
no_zero Id h = omega arith
no_zero Move h = omega arith
no_zero File h = omega arith
no_zero Room h = omega arith
no_zero Unit h = omega arith
no_zero Band h = omega arith
no_zero Quads h = omega arith

module _ (samples : List ℤ) (cuts : List ℕ) where
  -- an answer of 0 comes from what is tested after a refusal
  passed : (t : Bool) (k : ℕ) (more : Outcome) → (k ≡ 0 → ⊥) → (if t then refused samples cuts k else more).answer.number ≡ 0
      → (t ≡ false) × (((if t then refused samples cuts k else more) ≡ more) × (more.answer.number ≡ 0))
  unfolding refusal
  passed true k more h e = absurd (h e)
  passed false k more h e = (refl, (refl, e))

  -- an outcome that is a refusal, unless it answers 0
  Refuses : Outcome → Type 0
  Refuses o = (o.answer.number ≡ 0 → ⊥) → (k : ℕ) × (o ≡ refused samples cuts k)

  refuses : (t : Bool) (k : ℕ) (more : Outcome) → Refuses more → Refuses (if t then refused samples cuts k else more)
  unfolding Refuses
  refuses true k more h n = (k, refl)
  refuses false k more h n = h n

-- the numbers that reading answers
pub data Answers : ℕ → Type 0 where
  fine : Answers 0
  by_size : Answers 1
  by_file : Answers 11
  by_limit : Answers 12

answers : (samples : List ℤ) (cuts : List ℕ) (t : Bool) (k : ℕ) (more : Outcome) → Answers k → Answers more.answer.number
    → Answers (if t then refused samples cuts k else more).answer.number
unfolding refusal
answers samples cuts true k more a b = a
answers samples cuts false k more a b = b

-- a file that is read into the tables, and its sizes
pub record Readable (bytes : List ℕ) (limit : ℕ) (samples : List ℤ) (cuts : List ℕ) (s : Sizes) : Type 0 where
  pub sized : Sized s
  pub within : beyond limit s ≡ false
  pub room : points s ≤ length samples
  pub roomy : 7 * points s ≤ length cuts
  pub well : well_formed bytes (points s) ≡ true
  pub is : read bytes limit samples cuts ≡ taken bytes samples cuts s

-- what is asked to write the tables of a file of n points
abbrev pub Ready : List ℕ → List ℤ → List ℕ → ℕ → Type 0
Ready bytes samples cuts n = ((n ≤ most_points) × (well_formed bytes n ≡ true)) × ((n ≤ length samples) × (7 * n ≤ length cuts))

module _ (bytes : List ℕ) (limit : ℕ) (samples : List ℤ) (cuts : List ℕ) where
  pub readable : (read bytes limit samples cuts).answer.number ≡ 0 → Readable bytes limit samples cuts (file_sizes bytes)
  unfolding read read_body
  readable e =
      let s = file_sizes bytes in
      let s1 = passed samples cuts (ltb (length bytes) 3) 11 _ (λ z. omega arith) e in
      let s2 = passed samples cuts (not (sizes_fit s)) 1 _ (λ z. omega arith) s1.1.1 in
      let s3 = passed samples cuts (beyond limit s) 12 _ (λ z. omega arith) s2.1.1 in
      let s4 = passed samples cuts (ltb (length samples) (points s)) 12 _ (λ z. omega arith) s3.1.1 in
      let s5 = passed samples cuts (ltb (length cuts) (7 * points s)) 12 _ (λ z. omega arith) s4.1.1 in
      let s6 = passed samples cuts (not (well_formed bytes (points s))) 11 _ (λ z. omega arith) s5.1.1 in
      record {
        sized = fits_sized s (not-false _ s2.0);
        within = s3.0;
        room = ltb-false _ _ s4.0;
        roomy = ltb-false _ _ s5.0;
        well = not-false _ s6.0;
        is = s1.1.0 ∙ s2.1.0 ∙ s3.1.0 ∙ s4.1.0 ∙ s5.1.0 ∙ s6.1.0;
      }

  read_refuses : Refuses samples cuts (read bytes limit samples cuts)
  unfolding read read_body Refuses taken
  read_refuses =
      let s = file_sizes bytes in
      refuses samples cuts (ltb (length bytes) 3) 11 _
      (refuses samples cuts (not (sizes_fit s)) 1 _
      (refuses samples cuts (beyond limit s) 12 _
      (refuses samples cuts (ltb (length samples) (points s)) 12 _
      (refuses samples cuts (ltb (length cuts) (7 * points s)) 12 _
      (refuses samples cuts (not (well_formed bytes (points s))) 11 (taken bytes samples cuts s) (λ n. absurd (n refl)))))))

  pub read_answers : Answers (read bytes limit samples cuts).answer.number
  unfolding read read_body taken
  read_answers =
      let s = file_sizes bytes in
      answers samples cuts (ltb (length bytes) 3) 11 _ by_file
      (answers samples cuts (not (sizes_fit s)) 1 _ by_size
      (answers samples cuts (beyond limit s) 12 _ by_limit
      (answers samples cuts (ltb (length samples) (points s)) 12 _ by_limit
      (answers samples cuts (ltb (length cuts) (7 * points s)) 12 _ by_limit
      (answers samples cuts (not (well_formed bytes (points s))) 11 (taken bytes samples cuts s) by_file fine)))))

  pub whole_answers : Answers (read_whole bytes limit samples cuts).answer.number
  unfolding read_whole
  whole_answers =
      let o = read bytes limit samples cuts in
      answers samples cuts (eqb o.answer.number 0 && ltb o.answer.end (length bytes)) 11 o by_file read_answers

  -- the code holds the answer
  module _ {r : Read} (p : r ≡ (read bytes limit samples cuts).answer) where
    number_is : {k : ℕ} → r.number ≡ k → (read bytes limit samples cuts).answer.number ≡ k
    number_is e = sym (ap (λ (r : Read). r.number) p) ∙ e

    refusal_as : (r.number ≡ 0 → ⊥) → (k : ℕ) × (read bytes limit samples cuts ≡ refused samples cuts k)
    unfolding Refuses
    refusal_as n = read_refuses (λ z. n (ap (λ (r : Read). r.number) p ∙ z))

    pub untouched : (r.number ≡ 0 → ⊥) → Is (read bytes limit samples cuts) r samples cuts
    untouched n = let e = sym (refusal_as n).1 in (p, (ap (λ (o : Outcome). o.samples) e, ap (λ (o : Outcome). o.cuts) e))

    pub readable_as : r.number ≡ 0 → Readable bytes limit samples cuts (read_sizes r)
    unfolding taken
    readable_as e =
        let w = readable (number_is e) in
        let q = p ∙ ap (λ (o : Outcome). o.answer) w.is in
        rw (ap (λ (r : Read). read_sizes r) q) w

    ready : {n : ℕ} → r.number ≡ 0 → n ≡ points (read_sizes r) → Ready bytes samples cuts n
    ready e h =
        let w = readable_as e in
        rw h ((points_small _ w.sized, w.well), (w.room, w.roomy))

    -- both tables, written from their first entry on
    pub written : {ss : List ℤ} {cs : List ℕ} {n : ℕ} → r.number ≡ 0 → n ≡ points (read_sizes r)
        → ss ≡ sets samples 0 (samples_from bytes 3 n) → cs ≡ sets cuts 0 (file_cuts bytes n) → Is (read bytes limit samples cuts) r ss cs
    unfolding taken
    written {ss} {cs} {n} e h f g =
        let i = sym w.is in
        (p, (f ∙ front ∙ ap (λ (o : Outcome). o.samples) i, g ∙ back ∙ ap (λ (o : Outcome). o.cuts) i))
      where
        w : Readable bytes limit samples cuts (read_sizes r)
        w = readable_as e

        front : sets samples 0 (samples_from bytes 3 n) ≡ samples_from bytes 3 (points (read_sizes r)) ++ drop (points (read_sizes r)) samples
        front = rw h (sets_front samples (samples_from bytes 3 (points (read_sizes r))) (samples_long bytes 3 (points (read_sizes r))) w.room)

        back : sets cuts 0 (file_cuts bytes n) ≡ file_cuts bytes (points (read_sizes r)) ++ drop (7 * points (read_sizes r)) cuts
        back = rw h (sets_front cuts (file_cuts bytes (points (read_sizes r))) (file_cuts_long bytes (points (read_sizes r)) w.well) w.roomy)

    -- a whole file: refused as before; too long; or nothing follows
    whole_refused : (r.number ≡ 0 → ⊥) → read_whole bytes limit samples cuts ≡ read bytes limit samples cuts
    unfolding read_whole
    whole_refused n = simp (← p, ne_eqb r.number 0 n)

    whole_long : r.number ≡ 0 → r.end < length bytes → read_whole bytes limit samples cuts ≡ refused samples cuts 11
    unfolding read_whole
    whole_long e h = simp (← p, eq-eqb r.number 0 e, lt-ltb r.end (length bytes) h)

    whole_all : r.number ≡ 0 → length bytes ≤ r.end → read_whole bytes limit samples cuts ≡ read bytes limit samples cuts
    unfolding read_whole
    whole_all e h = simp (← p, eq-eqb r.number 0 e, le-ltb r.end (length bytes) h)

  -- a refusal is handed on with the tables as they were lent
  module _ (e : Refusal) (p : answer_of (Err e) ≡ (read bytes limit samples cuts).answer) where
    pub handed_on : Is (read bytes limit samples cuts) (answer_of (Err e)) samples cuts
    handed_on = untouched p (no_zero e)

    pub whole_handed_on : Is (read_whole bytes limit samples cuts) (answer_of (Err e)) samples cuts
    whole_handed_on = is_of (whole_refused p (no_zero e)) handed_on

  -- a file that passed the checks
  module _ (o : Loaded) (p : answer_of (Ok o) ≡ (read bytes limit samples cuts).answer) where
    pub loaded_ready : {n : ℕ} → n ≡ points o.lattice.sizes → Ready bytes samples cuts n
    unfolding answer_of
    loaded_ready h = ready p refl h

    pub loaded_written : {ss : List ℤ} {cs : List ℕ} {n : ℕ} → n ≡ points o.lattice.sizes → ss ≡ sets samples 0 (samples_from bytes 3 n)
        → cs ≡ sets cuts 0 (file_cuts bytes n) → Is (read bytes limit samples cuts) (answer_of (Ok o)) ss cs
    unfolding answer_of
    loaded_written h f g = written p refl h f g

    pub loaded_long : o.end < length bytes → Is (read_whole bytes limit samples cuts) (answer_of (Err File)) samples cuts
    unfolding answer_of refusal_number
    loaded_long h = is_of (whole_long p refl h) (refl, (refl, refl))

    pub loaded_all : length bytes ≤ o.end → read_whole bytes limit samples cuts ≡ read bytes limit samples cuts
    unfolding answer_of
    loaded_all h = whole_all p refl h

  -- a whole file that is taken is read as any other
  pub whole_is : (read_whole bytes limit samples cuts).answer.number ≡ 0 → read_whole bytes limit samples cuts ≡ read bytes limit samples cuts
  unfolding read_whole
  whole_is e = (passed samples cuts (eqb o.answer.number 0 && ltb o.answer.end (length bytes)) 11 o (λ z. omega arith) e).1.0
    where
      o : Outcome
      o = read bytes limit samples cuts

  module _ {r : Read} (p : r ≡ (read_whole bytes limit samples cuts).answer) (e : r.number ≡ 0) where
    whole_as : read_whole bytes limit samples cuts ≡ read bytes limit samples cuts
    whole_as = whole_is (sym (ap (λ (r : Read). r.number) p) ∙ e)

    pub whole_readable : Readable bytes limit samples cuts (read_sizes r)
    whole_readable = readable_as (p ∙ ap (λ (o : Outcome). o.answer) whole_as) e

    -- the tables hold the block
    pub whole_samples : {ss : List ℤ} → ss ≡ (read_whole bytes limit samples cuts).samples → points (read_sizes r) ≤ length ss
    unfolding taken
    whole_samples f =
        rw (f, whole_as, whole_readable.is, length-append) (omega (arith, samples_long bytes 3 (points (read_sizes r))))

    pub whole_cuts : {cs : List ℕ} → cs ≡ (read_whole bytes limit samples cuts).cuts → 7 * points (read_sizes r) ≤ length cs
    unfolding taken
    whole_cuts f =
        rw (f, whole_as, whole_readable.is, length-append) (omega (arith, file_cuts_long bytes (points (read_sizes r)) whole_readable.well))

  -- the same of a file that a call gives
  module _ (o : Loaded) (p : answer_of (Ok o) ≡ (read_whole bytes limit samples cuts).answer) where
    pub whole_loaded_samples : {ss : List ℤ} → ss ≡ (read_whole bytes limit samples cuts).samples → points o.lattice.sizes ≤ length ss
    unfolding answer_of
    whole_loaded_samples f = whole_samples p refl f

    pub whole_loaded_cuts : {cs : List ℕ} → cs ≡ (read_whole bytes limit samples cuts).cuts → 7 * points o.lattice.sizes ≤ length cs
    unfolding answer_of
    whole_loaded_cuts f = whole_cuts p refl f
