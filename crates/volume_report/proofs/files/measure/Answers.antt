-- The first 7N and N entries are lent, and the rows are added up. Assumes nothing.
use Rattle.std.specs.Prelude.{Ok}
use Rattle.fill_file.specs.inner.Answer.{answer_of}
use Rattle.volume_report.specs.inner.Answer.{entry_with}
use Rattle.volume_report.proofs.Measuring.{measured_is, small_is}
use Rattle.volume_report.proofs.files.measure.Goals as goal

pub returns-clause-value : goal.returns-clause-value
unfolding entry_with answer_of
returns-clause-value c =
    measured_is _ _ _ _ c.point_count-n.ensures c.args.block.end (answer_of (Ok c.args.filled))
    c.add_up-v.ensures.sum_value c.add_up-v.ensures.smallest_value

pub returns-clause-small : goal.returns-clause-small
unfolding entry_with
returns-clause-small c = small_is _ c.requires.emitted_le_rows_most c.add_up-v.ensures.sum_bound
