-- What the program prints for each file is what it must print, computed. Assumes nothing.
use mathlib.Core.Path.{◌≡◌, refl}
use mathlib.Core.List.{map}
use Rattle.casebook.specs.cases.Given.{laid, laid_runs, given_samples, given_cuts, changed}
use Rattle.casebook.proofs.Opened.{definitions}
use Rattle.yakuemi.specs.Measures.{measure}
use Rattle.blockfile.proofs.Opened.{format}
use Rattle.text.specs.Text.{digits_within, decimal, line}
use Rattle.fill_file.specs.program.Summary.{refusal, counted, fill_read, summary}
use Rattle.fill_file.specs.program.Printed.{count_lines, printed, output}
use Rattle.fill_file.specs.cases.TextExamples.{text_examples, comes, due}

pub texts_come_out : map comes text_examples ≡ map due text_examples
unfolding
    definitions laid laid_runs given_samples given_cuts changed format measure refusal counted fill_read summary
    digits_within decimal line count_lines printed output text_examples
texts_come_out = refl
