-- F-9, "Band before rim", compared: the calls of the casebook's F-9 cases (casebook/specs/cases/BandFirst) by filling and mending as they
-- stood directly before F-9 (`fill_raw`, F9Raw; `mend_raw`, F9Mending). What they answer today is `kinds_come_out`, casebook/proofs/Cases.
-- Assumes nothing.
--     answers_before, mended_before   what came out then, call by call
--     kinds_before                  it does by these definitions
use mathlib.Core.Path.{◌≡◌, refl}
use mathlib.Core.List.{List, [], ◌∷◌, map}
use Rattle.basics.specs.cases.Table.{◌:=◌}
use Rattle.lattice.specs.Counts.{points}
use Rattle.filling.specs.declared.Filled.{Filled}
use Rattle.mending.specs.Mend.{Outcome, size_of, rounded, held, byte_to, mended_byte, faults}
use Rattle.casebook.specs.cases.Lent.{State, as_lent, codes, lent_state, lent_rows}
use Rattle.casebook.specs.cases.Given.{laid, laid_runs, given_samples, given_cuts, all_entered, all_sampled}
use Rattle.casebook.specs.cases.Cases.{Case, banded, filled, too_short, refused}
use Rattle.casebook.specs.cases.Mends.{outcome_of}
use Rattle.casebook.specs.cases.BandFirst.{firm, kinds, remendings}
use Rattle.casebook.specs.cases.Result.{Result, expected, found, result_of}
use Rattle.casebook.proofs.Opened.{definitions}
use Rattle.history.proofs.F9Signs.{sign_of, signs}
use Rattle.history.proofs.F9Raw.{fill_raw}
use Rattle.history.proofs.F9Mending.{mend_raw}

-- the answer of a call, and its state table
pub data Was : Type 0 where
  was : Filled → State → Was

unfoldable pub answers_before : List Was
answers_before =
    -- a rim sample in the band, by bands 5, 3, 2 and 0: a 5 each time
    was (refused 5 27) as_lent
    ∷ was (refused 5 27) as_lent
    ∷ was (refused 5 27) as_lent
    ∷ was (refused 5 27) as_lent
    ∷ was (refused 5 27) as_lent
    ∷ was (refused 5 27) as_lent
    ∷ was (refused 5 27) as_lent
    -- some rim samples above zero: the lowest is named, in the band or not
    ∷ was (refused 5 0) as_lent
    ∷ was (refused 5 0) as_lent
    ∷ was (refused 5 0) as_lent
    -- a zero byte on an edge with an in-band end: a 6
    ∷ was (refused 6 91) as_lent
    ∷ was (refused 6 91) as_lent
    ∷ was (refused 6 192) as_lent
    ∷ was (refused 6 91) as_lent
    -- a non-zero byte there: filled, found too short, or refused for a later byte
    ∷ was (filled 24 0) (codes (14 := 15 ∷ []))
    ∷ was (too_short 24 0) (codes (14 := 15 ∷ []))
    ∷ was (refused 6 97) as_lent
    ∷ was (filled 0 0) (codes (13 := 15 ∷ []))
    ∷ was (filled 24 0) (codes [])
    -- an edge that does not cross by signs: no byte needed, and none allowed
    ∷ was (filled 24 0) (codes (15 := 15 ∷ []))
    ∷ was (refused 7 107) as_lent
    ∷ []

-- the same calls with these answers
unfoldable pub with_answers : List Case → List Was → List Case
with_answers [] ws = []
with_answers (c ∷ cs) [] = []
with_answers (c ∷ cs) (was a s ∷ ws) = banded c.band c.block c.numbers a s c.claims ∷ with_answers cs ws

abbrev computed_before : Case → Result
computed_before c =
    let b = c.block in
    result_of b (fill_raw c.band b (lent_state (points b.sizes)) (lent_rows c.numbers)) c.claims

-- of each call of mending: the bytes filled in, those cleared, and the table
unfoldable pub mended_before : List Outcome
mended_before =
    outcome_of 0 2 0 (all_entered (91 := 192 ∷ []) given_cuts)
    ∷ outcome_of 0 0 0 given_cuts
    ∷ outcome_of 0 1 0 (all_entered (91 := 192 ∷ []) given_cuts)
    ∷ outcome_of 0 0 0 given_cuts
    ∷ []

pub kinds_before :
    (map computed_before kinds ≡ map expected (with_answers kinds answers_before)) × (map (λ m. mend_raw m.block) remendings ≡ mended_before)
unfolding
    definitions sign_of signs fill_raw size_of rounded held byte_to mended_byte faults mend_raw
    laid laid_runs given_samples given_cuts all_entered all_sampled firm kinds remendings
    answers_before with_answers mended_before expected found result_of
kinds_before = (refl, refl)
