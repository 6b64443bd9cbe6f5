-- No difference passes: where a record is said to agree, the definition gives what the record states. Assumes nothing.
use Prim.Native.Nat.{ℕ, zero, suc, ◌+◌, ◌*◌, ◌<◌}
use native.Mathlib.Omega.{arith}
use mathlib.Core.Path.{◌≡◌, refl, sym, ap, ap₂, ◌∙◌}
use mathlib.Core.Bool.{Bool, true, false}
use mathlib.Core.List.{List, [], ◌∷◌, ◌++◌}
use lib.IntN.{ℤ, pos, negsuc}
use lib.ListN.{length, take, drop, replicate, take-append-drop}
use lib.Dec.{T, eqb, eqb→eq}
use Rattle.std.specs.Prelude.{if◌then◌else◌}
use Rattle.basics.proofs.Test.{&&-l, &&-r, true_T}
use Rattle.lattice.specs.declared.Sizes.{Sizes}
use Rattle.filling.specs.declared.Filled.{Filled}
use Rattle.filling.specs.declared.Placed.{Placed}
use Rattle.filling.specs.Located.{locate}
use Rattle.blockfile.specs.Format.{Read, four_at, file_sizes, samples_from}
use Rattle.replay.specs.declared.Lengths.{Lengths}
use Rattle.replay.specs.declared.Filed.{Filed}
use Rattle.comparison.specs.program.Same.{same, ids_from, same_sample, same_samples, same_answer}
use Rattle.replay.specs.program.Fills.{
  lengths_of,
  answer_of,
  state_at,
  ids_at,
  fits,
  replayed,
  stated_tables,
  agrees_with,
  fill_agrees,
}
use Rattle.replay.specs.program.Questions.{asked_of, same_place, stated_place, answered, all_answered, questions_at, places_agree_with, places_agree}
use Rattle.replay.specs.program.Files.{
  filed_of,
  stated_read,
  same_sizes,
  same_read,
  filed_fits,
  reread,
  read_agrees,
  file_agrees,
}
use Rattle.comparison.proofs.Difference.{same_equal, untouched_all}

-- a choice that came out true
chosen : (b c : Bool) → (if b then c else false) ≡ true → T c
chosen true c e = true_T c e
chosen false c e = absurd (true_T false e)

equal_answers : (a b : Filled) → T (same_answer a b) → a ≡ b
unfolding same_answer
equal_answers a b t =
    let u = &&-r (eqb a.number b.number) _ t in
    let v = &&-r (eqb a.rows b.rows) _ u in
    let n = eqb→eq _ _ (&&-l (eqb a.number b.number) _ t) in
    let r = eqb→eq _ _ (&&-l (eqb a.rows b.rows) _ u) in
    let m = eqb→eq _ _ (&&-l (eqb a.moved b.moved) _ v) in
    let p = eqb→eq _ _ (&&-r (eqb a.moved b.moved) _ v) in
    λ i. record { number = n i; rows = r i; moved = m i; place = p i }

-- filling answers as stated, and leaves the stated state table, the stated ids and beyond them what the row table was lent with
pub record Refilled (head body : List ℕ) (l : Lengths) : Type 0 where
  pub answer : (replayed head body l).answer ≡ answer_of head
  pub state : (replayed head body l).state ≡ take l.state (drop (state_at l) body)
  pub rows : (replayed head body l).rows
      ≡ ids_from body (ids_at l) l.ids ++ replicate (length (drop l.ids (replayed head body l).rows)) (four_at head 28)

refilled : (head body : List ℕ) (l : Lengths) → T (agrees_with head body l) → Refilled head body l
unfolding agrees_with stated_tables
refilled head body l t =
    let o = replayed head body l in
    let u = &&-r (same_answer o.answer (answer_of head)) _ t in
    let s = same o.state (take l.state (drop (state_at l) body)) in
    let i = same (take l.ids o.rows) (ids_from body (ids_at l) l.ids) in
    let ids = same_equal _ _ (&&-l i _ (&&-r s _ u)) in
    let rest = untouched_all (four_at head 28) (drop l.ids o.rows) (&&-r i _ (&&-r s _ u)) in
    record {
      answer = equal_answers _ _ (&&-l (same_answer o.answer (answer_of head)) _ t);
      state = same_equal _ _ (&&-l s _ u);
      rows = sym (take-append-drop l.ids o.rows) ∙ ap₂ {C = List ℕ} (λ a b. a ++ b) ids rest;
    }

pub fills_agree : (head body : List ℕ) (samples state rows : ℕ) → fill_agrees head body samples state rows ≡ true
    → Refilled head body (lengths_of head)
unfolding fill_agrees
fills_agree head body samples state rows e =
    let l = lengths_of head in
    refilled head body l (chosen (fits l (length body) samples state rows) (agrees_with head body l) e)

-- the place call answers each question as stated
equal_places : (a b : Placed) → T (same_place a b) → a ≡ b
unfolding same_place
equal_places a b t =
    let u = &&-r (eqb a.number b.number) _ t in
    let v = &&-r (eqb a.x b.x) _ u in
    let n = eqb→eq _ _ (&&-l (eqb a.number b.number) _ t) in
    let x = eqb→eq _ _ (&&-l (eqb a.x b.x) _ u) in
    let y = eqb→eq _ _ (&&-l (eqb a.y b.y) _ v) in
    let z = eqb→eq _ _ (&&-r (eqb a.y b.y) _ v) in
    λ i. record { number = n i; x = x i; y = y i; z = z i }

module _ (body : List ℕ) (number : ℕ) (s : Sizes) (cuts state : List ℕ) where
  all_equal : (first n : ℕ) → T (all_answered body number s cuts state first n) → (i : ℕ) → i < n
      → locate s cuts state (four_at body (first + 10 * i)) ≡ stated_place body number (first + 10 * i)
  unfolding all_answered answered
  all_equal first zero t i h = absurd (omega arith)
  all_equal first (suc n) t zero h =
      let e : first + 10 * 0 ≡ first = omega arith in
      rw e (equal_places _ _ (&&-l (same_place (locate s cuts state (four_at body first)) (stated_place body number first)) _ t))
  all_equal first (suc n) t (suc i) h =
      let e : first + 10 * suc i ≡ first + 10 + 10 * i = omega arith in
      rw e
      (all_equal (first + 10) n (&&-r (same_place (locate s cuts state (four_at body first)) (stated_place body number first)) _ t) i (omega arith))

pub places_agree_law : (head body : List ℕ) → places_agree head body ≡ true → (i : ℕ) → i < (asked_of head).questions
    → let a = asked_of head in
    let q = questions_at a + 10 * i in
    locate (file_sizes body) (take a.cuts (drop 3 body)) (take a.state (drop (3 + a.cuts) body)) (four_at body q)
    ≡ stated_place body a.number q
unfolding places_agree places_agree_with
places_agree_law head body e i h =
    let a = asked_of head in
    all_equal body a.number (file_sizes body) (take a.cuts (drop 3 body)) (take a.state (drop (3 + a.cuts) body)) (questions_at a)
    a.questions (chosen (eqb (length body) (questions_at a + 10 * a.questions)) (places_agree_with body a) e) i h

-- reading answers as stated and leaves the stated tables
equal_sample : (x y : ℤ) → T (same_sample x y) → x ≡ y
unfolding same_sample
equal_sample (pos a) (pos b) t = ap pos (eqb→eq a b t)
equal_sample (pos a) (negsuc b) t = absurd t
equal_sample (negsuc a) (pos b) t = absurd t
equal_sample (negsuc a) (negsuc b) t = ap negsuc (eqb→eq a b t)

equal_samples : (xs ys : List ℤ) → T (same_samples xs ys) → xs ≡ ys
unfolding same_samples
equal_samples [] [] t = refl
equal_samples [] (y ∷ ys) t = absurd t
equal_samples (x ∷ xs) [] t = absurd t
equal_samples (x ∷ xs) (y ∷ ys) t =
    ap₂ {C = List ℤ} (λ a l. a ∷ l) (equal_sample x y (&&-l (same_sample x y) _ t)) (equal_samples xs ys (&&-r (same_sample x y) _ t))

equal_reads : (a b : Read) → T (same_read a b) → a ≡ b
unfolding same_read same_sizes
equal_reads a b t =
    let u = &&-r (eqb a.number b.number) _ t in
    let v = &&-r (eqb a.end b.end) _ u in
    let w = &&-r (eqb a.nx b.nx) _ v in
    let n = eqb→eq _ _ (&&-l (eqb a.number b.number) _ t) in
    let e = eqb→eq _ _ (&&-l (eqb a.end b.end) _ u) in
    let x = eqb→eq _ _ (&&-l (eqb a.nx b.nx) _ v) in
    let y = eqb→eq _ _ (&&-l (eqb a.ny b.ny) _ w) in
    let z = eqb→eq _ _ (&&-r (eqb a.ny b.ny) _ w) in
    λ i. record { number = n i; nx = x i; ny = y i; nz = z i; end = e i }

pub record Reread (head body : List ℕ) (f : Filed) (samples : List ℤ) : Type 0 where
  pub answer : (reread head body f samples).answer ≡ stated_read head
  pub samples_are : (reread head body f samples).samples ≡ samples_from body f.file f.samples
  pub cuts_are : (reread head body f samples).cuts ≡ take f.cuts (drop (f.file + 2 * f.samples) body)

all_read : (head body : List ℕ) (f : Filed) (samples : List ℤ) → T (read_agrees head body f samples) → Reread head body f samples
unfolding read_agrees
all_read head body f samples t =
    let o = reread head body f samples in
    let u = &&-r (same_read o.answer (stated_read head)) _ t in
    let s = same_samples o.samples (samples_from body f.file f.samples) in
    record {
      answer = equal_reads _ _ (&&-l (same_read o.answer (stated_read head)) _ t);
      samples_are = equal_samples _ _ (&&-l s _ u);
      cuts_are = same_equal _ _ (&&-r s _ u);
    }

pub files_agree : (head body : List ℕ) (samples : List ℤ) (cuts : ℕ) → file_agrees head body samples cuts ≡ true
    → Reread head body (filed_of head) (take (filed_of head).samples samples)
unfolding file_agrees
files_agree head body samples cuts e =
    let f = filed_of head in
    let before = take f.samples samples in
    all_read head body f before (chosen (filed_fits f (length body) (length samples) cuts) (read_agrees head body f before) e)
