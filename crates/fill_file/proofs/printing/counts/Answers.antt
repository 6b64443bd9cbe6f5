-- Four lines, one after the other. Assumes nothing.
use mathlib.Core.Path.{refl}
use Rattle.fill_file.specs.inner.Answer.{answer_of}
use Rattle.fill_file.proofs.Texts.{four_lines, counts_printed}
use Rattle.fill_file.proofs.printing.counts.Goals as goal

pub returns : goal.returns
unfolding answer_of
returns c =
    let first = rw c.new-text.ensures at c.push_count.ensures.pushed in
    counts_printed _ refl (four_lines _ first c.push_count-2.ensures.pushed c.push_count-3.ensures.pushed c.push_count-4.ensures.pushed)
