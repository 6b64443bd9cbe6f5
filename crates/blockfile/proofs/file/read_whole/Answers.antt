-- As reading, with a refusal of what follows the file. Assumes nothing.
use Rattle.std.proofs.lemmas.Result.{err_from_is_err_and}
use Rattle.blockfile.proofs.Checked.{is_of, whole_handed_on, loaded_ready, loaded_written, loaded_long, loaded_all}
use Rattle.blockfile.proofs.file.read_whole.Goals as goal

pub returns-in_err-loaded : goal.returns-in_err-loaded
returns-in_err-loaded c =
    let p = err_from_is_err_and c.from_residual.result c.from_residual.ensures.1 in
    let w = whole_handed_on _ _ _ _ _ c.in_err-loaded.ensures in
    rw (p.1, p.2) (record { value = w.0; samples_after = w.1.0; cuts_after = w.1.1 })

pub returns-then-loaded-bytes : goal.returns-then-loaded-bytes
returns-then-loaded-bytes c =
    let w = loaded_long _ _ _ _ _ c.in_ok-loaded.ensures c.if-loaded-bytes.true in
    record { value = w.0; samples_after = w.1.0; cuts_after = w.1.1 }

pub write_tables-requires : goal.write_tables-requires
write_tables-requires c =
    let w = loaded_ready _ _ _ _ _ c.in_ok-loaded.ensures c.point_count.ensures in
    record { n_le_most_points = w.0; n_in_bounds = w.1 }

pub returns : goal.returns
returns c =
    let e = c.in_ok-loaded.ensures in
    let w = is_of (loaded_all _ _ _ _ _ e c.if-loaded-bytes.false)
    (loaded_written _ _ _ _ _ e c.point_count.ensures c.write_tables.ensures.samples_after c.write_tables.ensures.cuts_after) in
    record { value = w.0; samples_after = w.1.0; cuts_after = w.1.1 }
