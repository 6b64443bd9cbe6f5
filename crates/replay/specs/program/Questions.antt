-- Recorded calls of the place of an id, all with the same tables and the same number answered.
--
-- Head, by offset: 0 the kind, 4 the length of the body; 8 cut bytes, 12 state bytes, 16 questions; 32 number answered; else zeros.
-- Body: three size bytes, the cut bytes, the state bytes, and for each question the id in four bytes and the place answered, two bytes a coordinate.
use Rattle.std.specs.Prelude.{ℕ, zero, suc, ◌+◌, ◌*◌, Bool, true, false, ◌&&◌, List, length, take, drop, eqb, if◌then◌else◌}
use Rattle.lattice.specs.declared.Sizes.{Sizes}
use Rattle.filling.specs.declared.Placed.{Placed}
use Rattle.filling.specs.Located.{locate}
use Rattle.blockfile.specs.Format.{two_at, four_at, file_sizes}
use Rattle.replay.specs.declared.Asked.{Asked}

unfoldable pub asked_of : List ℕ → Asked
asked_of head = record { cuts = four_at head 8; state = four_at head 12; questions = four_at head 16; number = four_at head 32 }

unfoldable pub same_place : Placed → Placed → Bool
same_place a b = eqb a.number b.number && (eqb a.x b.x && (eqb a.y b.y && eqb a.z b.z))

module _ (body : List ℕ) (number : ℕ) where
  -- the answer stated for the question at i
  unfoldable pub stated_place : ℕ → Placed
  stated_place i = record { number = number; x = two_at body (i + 4); y = two_at body (i + 6); z = two_at body (i + 8) }

  module _ (s : Sizes) (cuts state : List ℕ) where
    -- the place call answers the question at i as the record states
    unfoldable pub answered : ℕ → Bool
    answered i = same_place (locate s cuts state (four_at body i)) (stated_place i)

    -- the same of n questions from i on
    unfoldable pub all_answered : ℕ → ℕ → Bool
    all_answered i zero = true
    all_answered i (suc n) = answered i && all_answered (i + 10) n

-- where the questions start in the body
abbrev pub questions_at : Asked → ℕ
questions_at a = 3 + a.cuts + a.state

unfoldable pub places_agree_with : List ℕ → Asked → Bool
places_agree_with body a =
    all_answered body a.number (file_sizes body) (take a.cuts (drop 3 body)) (take a.state (drop (3 + a.cuts) body)) (questions_at a)
    a.questions

-- the record agrees with the definition of the place call; one whose parts do not make up the body is a difference too
unfoldable pub places_agree : List ℕ → List ℕ → Bool
places_agree head body =
    let a = asked_of head in
    let agreement = places_agree_with body a in
    if eqb (length body) (questions_at a + 10 * a.questions) then agreement else false
