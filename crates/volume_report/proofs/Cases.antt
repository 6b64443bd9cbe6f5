-- Document 02, F-7: each week's report is what must be printed. Assumes nothing.
--     weeks_come_out    the cases, as one statement
use mathlib.Core.Path.{◌≡◌, refl, ap₂, ◌∙◌}
use mathlib.Core.List.{List, [], ◌∷◌, map}
use lib.Dec.{T, leb, leb→le}
use lib.ListN.{length}
use Rattle.basics.proofs.Test.{and_l, and_r, every}
use Rattle.volume_report.specs.program.Report.{most_files, report}
use Rattle.volume_report.specs.cases.Weeks.{Week, due, weeks}
use Rattle.volume_report.proofs.Short.{short}
use Rattle.volume_report.proofs.AWeek.{computed, all_computed, all_short}

-- of a short input
agree : (ws : List Week) → T (every (λ w. leb (length w.input) most_files) ws)
    → map (λ w. report w.input) ws ≡ map computed ws
agree [] t = refl
agree (w ∷ ws) t = ap₂ ◌∷◌ (short w.input (leb→le _ _ (and_l _ _ t))) (agree ws (and_r _ _ t))

pub weeks_come_out : map (λ w. report w.input) weeks ≡ map due weeks
weeks_come_out = agree weeks all_short ∙ all_computed
