-- The sizes are refused, or what follows them decides. Assumes nothing.
use Rattle.std.proofs.lemmas.Result.{err_from_is_err_and}
use Rattle.blockfile.proofs.Outcome.{shut_is, open_is}
use Rattle.blockfile.proofs.file.check.Goals as goal

pub returns-in_err-lattice : goal.returns-in_err-lattice
returns-in_err-lattice c =
    let p = err_from_is_err_and c.from_residual.result c.from_residual.ensures.1 in
    rw (p.1, p.2) (shut_is _ _ _ _ c.in_err-lattice.ensures)

pub returns : goal.returns
returns c = open_is _ _ _ _ c.in_ok-lattice.ensures c.check_body.ensures
