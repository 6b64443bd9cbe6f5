-- Fewer bytes than files may come: the report is the same whatever the limit to the files. Assumes nothing.
--     short    so the report of a short input can be computed with its length for the limit
use Prim.Native.Nat.{ℕ, zero, suc, ◌≤◌}
use native.Mathlib.Omega.{arith}
use mathlib.Core.Path.{◌≡◌, refl, ap}
use mathlib.Core.Bool.{Bool, true, false}
use mathlib.Core.List.{List, [], ◌∷◌}
use lib.ListN.{length, drop, length-drop}
use Rattle.std.specs.Prelude.{if◌then◌else◌}
use Rattle.volume_report.specs.declared.Tally.{Tally}
use Rattle.volume_report.specs.program.Report.{Entry, entry_of, line_of, counted, last_line, is_last, most_files, report_from, begun, report}
use Rattle.volume_report.proofs.Ended.{entry_some}

either_limit : (k j : ℕ) (t : Tally) (bytes : List ℕ) → length bytes ≤ k → length bytes ≤ j
    → report_from k t bytes ≡ report_from j t bytes
unfolding report_from
either_limit zero zero t bytes h g = refl
either_limit zero (suc j) t [] h g = refl
either_limit zero (suc j) t (b ∷ bs) h g = absurd (omega arith)
either_limit (suc k) zero t [] h g = refl
either_limit (suc k) zero t (b ∷ bs) h g = absurd (omega arith)
either_limit (suc k) (suc j) t [] h g = refl
either_limit (suc k) (suc j) t (b ∷ bs) h g =
    ap (line_of (counted t e).files e ∷◌) (go (is_last e.number) refl (either_limit k j (counted t e) rest))
  where
    e : Entry
    e = entry_of (b ∷ bs)

    rest : List ℕ
    rest = drop e.end (b ∷ bs)

    go : (l : Bool) → is_last e.number ≡ l
        → (length rest ≤ k → length rest ≤ j → report_from k (counted t e) rest ≡ report_from j (counted t e) rest)
        → (if l then last_line (counted t e) ∷ [] else report_from k (counted t e) rest)
        ≡ (if l then last_line (counted t e) ∷ [] else report_from j (counted t e) rest)
    go true p more = refl
    go false p more =
        let less = length-drop e.end (b ∷ bs) in
        let some = entry_some (b ∷ bs) p in
        more (omega (arith, less, some)) (omega (arith, less, some))

pub short : (bytes : List ℕ) → length bytes ≤ most_files → report bytes ≡ report_from (length bytes) begun bytes
unfolding report
short bytes h = either_limit most_files (length bytes) begun bytes h (omega arith)
