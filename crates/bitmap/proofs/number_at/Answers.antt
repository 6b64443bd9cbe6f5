-- The rank of its word, and the bits before it there. Assumes nothing.
use Rattle.bitmap.proofs.Counts.{number_is, number_fits}
use Rattle.bitmap.proofs.number_at.Goals as goal

pub overflow_add-result : goal.overflow_add-result
overflow_add-result c =
    record { fits = number_fits c.args.k c.requires.ranks c.requires.k_bound c.ones_below.ensures c.requires.bits_bound }

pub returns : goal.returns
returns c = number_is c.args.k c.requires.ranks c.requires.k_bound c.ones_below.ensures
