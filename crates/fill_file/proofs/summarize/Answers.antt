-- The reader's refusals, or filling's answer for the block that was read. Assumes nothing.
use Rattle.std.proofs.lemmas.Result.{err_from_is_err_and}
use Rattle.blockfile.proofs.Checked.{whole_loaded_samples, whole_loaded_cuts}
use Rattle.fill_file.proofs.Outcome.{refused_as, filled_as}
use Rattle.fill_file.proofs.summarize.Goals as goal

pub returns-in_err-block : goal.returns-in_err-block
returns-in_err-block c =
    let e = c.in_err-block.ensures in
    let p = err_from_is_err_and c.from_residual.result c.from_residual.ensures.1 in
    let w = refused_as _ _ _ _ _ c.in_err-block.field-0.0 p.0 e.value p.2.0 p.2.1 in
    record {
      answer = rw p.1 w.0;
      samples = e.samples_after;
      cuts = e.cuts_after;
      state = w.1.0;
      rows = w.1.1;
    }

pub fill_read-requires : goal.fill_read-requires
fill_read-requires c =
    let e = c.in_ok-block.ensures in
    (whole_loaded_samples _ _ _ _ _ e.value e.samples_after, whole_loaded_cuts _ _ _ _ _ e.value e.cuts_after)

pub returns : goal.returns
returns c =
    let e = c.in_ok-block.ensures in
    let f = c.fill_read.ensures in
    let w = filled_as _ _ _ _ _ _ e.value e.samples_after e.cuts_after (f.value, (f.state_after, f.rows_after)) in
    record {
      answer = w.0;
      samples = e.samples_after;
      cuts = e.cuts_after;
      state = w.1.0;
      rows = w.1.1;
    }
