-- For every input there are turns, so that the law of the refilled buffer is about something. Assumes nothing.
--     turns_of    and what comes of them is the report
use Prim.Native.Nat.{ℕ, zero, suc, ◌-◌, ◌<◌}
use native.Mathlib.Omega.{arith}
use mathlib.Core.Path.{◌≡◌, refl, subst}
use mathlib.Core.Logic.{inr}
use mathlib.Core.Bool.{Bool, true, false}
use mathlib.Core.List.{List, [], ◌∷◌, ◌++◌}
use lib.ListN.{take, drop, take-append-drop}
use Rattle.blockfile.specs.inner.Needs.{bench_longest, Held}
use Rattle.blockfile.proofs.Holds.{Holds, held_of}
use Rattle.fill_file.specs.program.Summary.{bench_limit}
use Rattle.volume_report.specs.declared.Tally.{Tally}
use Rattle.volume_report.specs.program.Report.{entry_of, counted, is_last, most_files, begun, report}
use Rattle.volume_report.specs.inner.Turns.{Turns, full, over, last, next}
use Rattle.volume_report.proofs.Counted.{files_more}
use Rattle.volume_report.proofs.Refilled.{refilled}

-- some turns, and the lines that come of them
abbrev Lines : Tally → List ℕ → Type 0
Lines t input = (lines : List (List ℕ)) × Turns t input lines

-- a file is held, and the turns after it are there
one_turn : (t : Tally) (b : ℕ) (bytes left : List ℕ) → t.files < most_files → Held bench_limit bench_longest (b ∷ bytes) left
    → Lines (counted t (entry_of (b ∷ bytes))) left → Lines t ((b ∷ bytes) ++ left)
one_turn t b bytes left h w more = go (is_last (entry_of (b ∷ bytes)).number) refl
  where
    go : (l : Bool) → is_last (entry_of (b ∷ bytes)).number ≡ l → Lines t ((b ∷ bytes) ++ left)
    go true e = (_, last t b bytes left h w e)
    go false e = (_, next t b bytes left more.0 h w e more.1)

turns_from : (k : ℕ) (t : Tally) (input : List ℕ) → k ≡ most_files - t.files → Lines t input
turns_from zero t input e = (_, full t input (omega arith))
turns_from (suc k) t [] e = (_, over t [] (omega arith) (record { no_more = omega arith; enough = inr (inr refl) }))
turns_from (suc k) t (b ∷ bs) e =
    go held.count (held.some (omega arith)) held.held (λ u left f. turns_from k u left f)
  where
    held : Holds bench_limit bench_longest (b ∷ bs)
    held = held_of bench_limit bench_longest (b ∷ bs) (omega arith)

    go : (n : ℕ) → 0 < n → Held bench_limit bench_longest (take n (b ∷ bs)) (drop n (b ∷ bs))
        → ((u : Tally) (left : List ℕ) → k ≡ most_files - u.files → Lines u left) → Lines t (b ∷ bs)
    go zero h w more = absurd (omega arith)
    go (suc n) h w more =
        let now = entry_of (b ∷ take n bs) in
        subst (Lines t) (take-append-drop (suc n) (b ∷ bs))
        (one_turn t b (take n bs) (drop n bs) (omega arith) w (more (counted t now) (drop n bs) (omega (arith, files_more t now))))

pub turns_of : (input : List ℕ) → Turns begun input (report input)
unfolding begun
turns_of input =
    let (lines, turns) = turns_from most_files begun input refl in
    subst (Turns begun input) (refilled turns) turns
