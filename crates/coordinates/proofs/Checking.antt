-- Ids with places, one by one, by words and by windows. Assumes nothing.
--     number_some                                          a refusal has a number
--     at_rest                                              a point that did not move has a place
--     found_ok, found_number, placed_here                  whether a place was found, and the number where not
--     placed_none, placed_more, placed_skip, placed_all    the first ids from one on; one more has a place, or is not asked
--     faulty_here                                          an id that has none
--     word_placed, word_empty, word_faulty                 the ids of a word among those of a table of bits
--     Before, before_none, before_more                     the first entries of a row table have places
--     first_here, first_nowhere                            the first entry that has none
use Prim.Native.Nat.{ℕ, ◌+◌, ◌*◌, ◌-◌, ◌≤◌, ◌<◌}
use native.Mathlib.Omega.{arith}
use mathlib.Core.Path.{◌≡◌, refl, sym, ap, subst, ◌∙◌}
use mathlib.Core.Logic.{inl, inr}
use mathlib.Core.Bool.{Bool, true, false, not}
use mathlib.Core.List.{List, []}
use lib.Dec.{eqb}
use lib.ListN.{length, get_or}
use borrow.Author.Tests.{eq-eqb, ne_eqb, eqb-true, eqb-false, lt-ltb}
use Rattle.std.specs.Prelude.{Result, Ok, Err, is_ok}
use Rattle.basics.proofs.Test.{true_T, false_F, lt_or}
use Rattle.basics.proofs.Search.{lowest_is, none_lowest}
use Rattle.lattice.specs.Counts.{points}
use Rattle.moving.specs.State.{no_move}
use Rattle.filling.specs.declared.Placed.{Placed}
use Rattle.filling.specs.Located.{believable, id_fault}
use Rattle.bitmap.specs.inner.Bits.{bit, marked}
use Rattle.bitmap.proofs.Words.{bit_zero}
use Rattle.bitmap.proofs.Tables.{word_bit}
use Rattle.numbering.specs.Nodes.{first_unplaced}
use Rattle.numbering.specs.inner.Whole.{Whole}
use Rattle.numbering.proofs.Places.{locate_number}
use Rattle.places.specs.declared.stored.Stored.{Stored}
use Rattle.places.specs.inner.Answer.{answer_of}
use Rattle.refusals.specs.declared.Refusal.{Refusal}
use Rattle.refusals.specs.declared.Refusal.TheVariants.{Sizes, Samples, Cuts, State, Rim, Gap, Stray, Id, Move, File, Room, Unit, Band, Quads}
use Rattle.refusals.specs.inner.Numbers.{refusal_number}
use Rattle.triple.specs.declared.Place.{Place}
use Rattle.coordinates.specs.inner.Marked.{fault, located, first, AllPlaced, Unplaced, FirstRefused}

pub number_some : (r : Refusal) → refusal_number r ≡ 0 → ⊥
unfolding refusal_number
number_some Sizes e = cc
number_some Samples e = cc
number_some Cuts e = cc
number_some State e = cc
number_some (Rim p) e = cc
number_some (Gap o) e = cc
number_some (Stray o) e = cc
number_some Id e = cc
number_some Move e = cc
number_some File e = cc
number_some Room e = cc
number_some Unit e = cc
number_some Band e = cc
number_some Quads e = cc

module _ (t : Stored) where
  whole : Whole t.lattice.sizes t.cuts.now t.state.now []
  whole = record { sized = t.lattice.sized; cuts_long = t.cuts_long; state_long = t.state_long; rows_whole = refl }

  pub at_rest : (id : ℕ) → id < length t.state.now → no_move (get_or t.state.now id 0) ≡ true → true ≡ eqb (fault t id) 0
  unfolding id_fault believable
  at_rest id l e = sym (rw (lt-ltb id (points t.lattice.sizes) (omega (arith, t.state_long)), e) refl)

  -- what was found is the answer of the place call
  number_is : (id : ℕ) (found : Result Place Refusal) → answer_of found ≡ located t id → (answer_of found).number ≡ fault t id
  number_is id found e = ap (λ (p : Placed). p.number) e ∙ locate_number whole id

  pub found_ok : (id : ℕ) (found : Result Place Refusal) → answer_of found ≡ located t id → is_ok found ≡ eqb (fault t id) 0
  found_ok id (Ok p) e = sym (eq-eqb _ _ (sym (number_is id (Ok p) e)))
  found_ok id (Err r) e = sym (ne_eqb _ _ (λ z. number_some r (number_is id (Err r) e ∙ z)))

  pub found_number : (id : ℕ) (why : Refusal) → answer_of (Err why) ≡ located t id → refusal_number why ≡ fault t id
  found_number id why e = number_is id (Err why) e

  pub placed_here : (id : ℕ) (p : Place) → answer_of (Ok p) ≡ located t id → fault t id ≡ 0
  placed_here id p e = sym (number_is id (Ok p) e)

module _ {t : Stored} where
  -- one id more: it has a place, or is not asked
  pub placed_none : (test : ℕ → Bool) (lo : ℕ) → AllPlaced t test lo 0
  placed_none test lo = record { is = λ k l t. absurd (omega arith) }

  module _ {test : ℕ → Bool} {lo n : ℕ} (w : AllPlaced t test lo n) where
    placed_next : (test n ≡ true → fault t (lo + n) ≡ 0) → AllPlaced t test lo (n + 1)
    placed_next h =
        record {
          is = λ k l on. elim (lt_or k n) [
            | inl i ↦ w.is k i on
            | inr i ↦
                let e : n ≡ k = omega arith in
                subst (λ (j : ℕ). test j ≡ true → fault t (lo + j) ≡ 0) e h on
          ];
        }

    pub placed_more : eqb (fault t (lo + n)) 0 ≡ true → AllPlaced t test lo (n + 1)
    placed_more e = placed_next (λ t. eqb-true _ _ e)

    pub placed_skip : test n ≡ false → AllPlaced t test lo (n + 1)
    placed_skip f = placed_next (λ t. absurd (false_F (test n) f (true_T (test n) t)))

    -- after the last
    pub placed_all : (m : ℕ) → m ≤ n → AllPlaced t test lo m
    placed_all m l = record { is = λ k i t. w.is k (omega arith) t }

  -- one that has none
  pub faulty_here : {test : ℕ → Bool} {lo n : ℕ} (k : ℕ) → k < n → test k ≡ true → eqb (fault t (lo + k)) 0 ≡ false
      → Unplaced t test lo n
  faulty_here k l t e = record { at = k; within = l; passes = t; faulty = eqb-false _ _ e }

-- the 64 ids of a word among those of a table of bits
moved_on : (lo w k : ℕ) → 64 * w ≤ k → lo + 64 * w + (k - 64 * w) ≡ lo + k
moved_on lo w k l = omega arith

same_bit : (bits : List ℕ) (w k : ℕ) → 64 * w ≤ k → k < 64 * w + 64 → marked bits k ≡ bit (get_or bits w 0) (k - 64 * w)
same_bit bits w k l u =
    let e : k ≡ 64 * w + (k - 64 * w) = omega arith in
    ap (marked bits) e ∙ word_bit bits w (k - 64 * w) (omega arith)

module _ {t : Stored} (bits : List ℕ) (lo w : ℕ) where
  word_next : AllPlaced t (marked bits) lo (64 * w)
      → ((j : ℕ) → j < 64 → bit (get_or bits w 0) j ≡ true → fault t (lo + 64 * w + j) ≡ 0)
      → AllPlaced t (marked bits) lo (64 * (w + 1))
  word_next before h =
      record {
        is = λ k l on. elim (lt_or k (64 * w)) [
          | inl i ↦ before.is k i on
          | inr i ↦
              subst (λ (id : ℕ). fault t id ≡ 0) (moved_on lo w k i)
              (h (k - 64 * w) (omega arith) (sym (same_bit bits w k i (omega arith)) ∙ on))
        ];
      }

  pub word_placed : AllPlaced t (marked bits) lo (64 * w) → AllPlaced t (bit (get_or bits w 0)) (lo + 64 * w) 64
      → AllPlaced t (marked bits) lo (64 * (w + 1))
  word_placed before here = word_next before here.is

  pub word_empty : AllPlaced t (marked bits) lo (64 * w) → get_or bits w 0 ≡ 0
      → AllPlaced t (marked bits) lo (64 * (w + 1))
  word_empty before e =
      word_next before
      (λ j l t. absurd (false_F _ (ap (λ (x : ℕ). bit x j) e ∙ bit_zero j) (true_T _ t)))

  pub word_faulty : (n : ℕ) → 64 * w + 64 ≤ n → Unplaced t (bit (get_or bits w 0)) (lo + 64 * w) 64
      → Unplaced t (marked bits) lo n
  word_faulty n l u =
      record {
        at = 64 * w + u.at;
        within = omega (arith, u.within);
        passes = word_bit bits w u.at u.within ∙ u.passes;
        faulty = λ e. u.faulty (subst (λ (id : ℕ). fault t id ≡ 0) (omega arith) e);
      }

-- the entries of a row table, one after the other
pub record Before (t : Stored) (rows : List ℕ) (i : ℕ) : Type 0 where
  pub is : (j : ℕ) → j < i → fault t (get_or rows j 0) ≡ 0

module _ {t : Stored} {rows : List ℕ} where
  pub before_none : Before t rows 0
  before_none = record { is = λ j l. absurd (omega arith) }

  module _ {i : ℕ} (b : Before t rows i) where
    pub before_more : fault t (get_or rows i 0) ≡ 0 → Before t rows (i + 1)
    before_more e =
        record {
          is = λ j l. elim (lt_or j i) [
            | inl m ↦ b.is j m
            | inr m ↦ let q : i ≡ j = omega arith in ap (λ (k : ℕ). fault t (get_or rows k 0)) (sym q) ∙ e
          ];
        }

    none_failed : (j : ℕ) → j < i → not (eqb (fault t (get_or rows j 0)) 0) ≡ false
    none_failed j l = ap not (eq-eqb _ _ (b.is j l))

    -- the entry has none
    pub first_here : {why : Refusal} → i < length rows → answer_of (Err why) ≡ located t (get_or rows i 0) → FirstRefused t rows i why
    unfolding first_unplaced
    first_here {why} l e =
        record {
          is_first =
              sym (lowest_is (λ j. not (eqb (fault t (get_or rows j 0)) 0)) (length rows) i l
              (true_T _ (ap not (ne_eqb _ _ faulty))) none_failed);
          within = l;
          is_why = is;
        }
      where
        is : refusal_number why ≡ fault t (get_or rows i 0)
        is = found_number t (get_or rows i 0) why e

        faulty : fault t (get_or rows i 0) ≡ 0 → ⊥
        faulty z = number_some why (is ∙ z)

    pub first_nowhere : length rows ≤ i → first t rows ≡ length rows
    unfolding first_unplaced
    first_nowhere l = none_lowest (λ j. not (eqb (fault t (get_or rows j 0)) 0)) (length rows) (λ j u. none_failed j (omega arith))
