-- Working through a buffer that is refilled is the same as working on all bytes at once: whatever is held at each turn, the lines are those
-- of the report. Assumes nothing.
use Prim.Native.Nat.{ℕ, zero, suc, ◌-◌}
use native.Mathlib.Omega.{arith}
use mathlib.Core.Path.{◌≡◌, refl, sym, ap, ◌∙◌}
use mathlib.Core.Bool.{false}
use mathlib.Core.List.{List, [], ◌∷◌, ◌++◌}
use lib.ListN.{drop}
use Rattle.std.specs.Prelude.{if◌then◌else◌}
use Rattle.blockfile.specs.inner.Needs.{bench_longest, Held}
use Rattle.blockfile.proofs.Longest.{bench_enough}
use Rattle.blockfile.proofs.Holding.{held_read, held_all, held_some}
use Rattle.fill_file.specs.program.Summary.{bench_limit}
use Rattle.volume_report.specs.declared.Tally.{Tally}
use Rattle.volume_report.specs.program.Report.{Entry, opened, entry_from, entry_of, line_of, counted, last_line, is_last}
use Rattle.volume_report.specs.program.Report.{most_files, report_from, begun, report}
use Rattle.volume_report.proofs.Counted.{files_more}
use Rattle.volume_report.proofs.Ended.{entry_end, read_whole}
use Rattle.volume_report.specs.inner.Turns.{Turns, full, over, last, next}

module _ {bytes left : List ℕ} (h : Held bench_limit bench_longest bytes left) where
  -- what is left changes nothing of the file that is held
  opened_same : opened (bytes ++ left) ≡ opened bytes
  unfolding opened
  opened_same = held_read _ _ (omega arith) bench_enough h

  entry_same : entry_of (bytes ++ left) ≡ entry_of bytes
  entry_same = ap entry_from opened_same

  -- and it is all that is held
  rest_left : is_last (entry_of bytes).number ≡ false → drop (entry_of bytes).end (bytes ++ left) ≡ left
  unfolding opened
  rest_left e =
      let z = read_whole bytes e in
      rw (entry_end (opened bytes) z) (held_all _ _ h z)

-- one file of the report, and what comes after it
abbrev after : ℕ → Tally → Entry → List ℕ → List (List ℕ)
after k t e bytes =
    line_of (counted t e).files e
    ∷ (if is_last e.number then last_line (counted t e) ∷ [] else report_from k (counted t e) (drop e.end bytes))

one_file : (k : ℕ) (t : Tally) (b : ℕ) (bs : List ℕ) (e : Entry) → entry_of (b ∷ bs) ≡ e
    → report_from (suc k) t (b ∷ bs) ≡ after k t e (b ∷ bs)
unfolding report_from
one_file k t b bs e g = rw (← g) refl

-- no file may come any more, or the input has ended
no_more : (k : ℕ) (t : Tally) (left : List ℕ) → k ≡ 0 → last_line t ∷ [] ≡ report_from k t left
unfolding report_from
no_more k t left e = rw e refl

at_end : (k : ℕ) (t : Tally) (left : List ℕ) → left ≡ [] → last_line t ∷ [] ≡ report_from k t left
unfolding report_from
at_end zero t left e = refl
at_end (suc k) t left e = rw e refl

-- as many files as may still come
turns_from : (k : ℕ) {t : Tally} {left : List ℕ} {lines : List (List ℕ)} → k ≡ most_files - t.files → Turns t left lines
    → lines ≡ report_from k t left
turns_from k e (full t left h) = no_more k t left (omega arith)
turns_from k e (over t left h w) = at_end k t left (held_some w (omega arith))
turns_from zero e (last t b bytes left h w l) = absurd (omega arith)
turns_from zero e (next t b bytes left rest h w l more) = absurd (omega arith)
turns_from (suc k) e (last t b bytes left h w l) =
    sym (one_file k t b (bytes ++ left) (entry_of (b ∷ bytes)) (entry_same w) ∙ rw l refl)
turns_from (suc k) e (next t b bytes left rest h w l more) =
    let now = entry_of (b ∷ bytes) in
    let so-on = turns_from k (omega (arith, files_more t now)) more in
    sym (one_file k t b (bytes ++ left) now (entry_same w) ∙ rw (l, rest_left w l, so-on) refl)

pub refilled : {input : List ℕ} {lines : List (List ℕ)} → Turns begun input lines → lines ≡ report input
unfolding report begun
refilled w = turns_from most_files refl w
