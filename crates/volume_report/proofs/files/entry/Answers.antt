-- A file that is refused, a block that is refused, or its volumes. Assumes nothing.
use Rattle.volume_report.proofs.Opening.{opens}
use Rattle.volume_report.proofs.Entries.{unread, refused_small, loaded_fits, refused_entry, counts_state, counts_few, counts_ready, counts_entry}
use Rattle.volume_report.proofs.files.entry.Goals as goal

pub fill_read-requires : goal.fill_read-requires
fill_read-requires c =
    let e = c.in-Ok.ensures in
    loaded_fits c.in-Ok.block (opens e.value e.samples_after e.cuts_after)

pub returns-in-Err-clause-value : goal.returns-in-Err-clause-value
returns-in-Err-clause-value c =
    let e = c.in-Err.ensures in
    unread _ _ (opens e.value e.samples_after e.cuts_after) c.into.ensures.0 c.into.ensures.1

pub returns-in-Err-clause-small : goal.returns-in-Err-clause-small
returns-in-Err-clause-small c = refused_small _ _

pub returns-in-Err-fill_read-clause-value : goal.returns-in-Err-fill_read-clause-value
returns-in-Err-fill_read-clause-value c =
    let e = c.in-Ok.ensures in
    let f = c.in-Err-fill_read.ensures in
    refused_entry c.in-Ok.block (opens e.value e.samples_after e.cuts_after) f.state_after f.rows_after _ f.value

pub returns-in-Err-fill_read-clause-small : goal.returns-in-Err-fill_read-clause-small
returns-in-Err-fill_read-clause-small c = refused_small _ _

pub measure-requires : goal.measure-requires
measure-requires c =
    let e = c.in-Ok.ensures in
    let f = c.in-Ok-fill_read.ensures in
    let w = opens e.value e.samples_after e.cuts_after in
    let o = c.in-Ok.block in
    let counts = c.in-Ok-fill_read.filled in
    record {
      in_bounds = (counts_state o w f.state_after f.rows_after counts f.value, (loaded_fits o w).1);
      emitted_le_rows_most = counts_few o w f.state_after f.rows_after counts f.value;
      measured = λ bytes. counts_ready o w f.state_after f.rows_after counts f.value bytes;
    }

pub returns-in-Ok-fill_read-clause-value : goal.returns-in-Ok-fill_read-clause-value
returns-in-Ok-fill_read-clause-value c =
    let e = c.in-Ok.ensures in
    let f = c.in-Ok-fill_read.ensures in
    let w = opens e.value e.samples_after e.cuts_after in
    counts_entry c.in-Ok.block w f.state_after f.rows_after c.in-Ok-fill_read.filled f.value _ c.measure.ensures.value
