-- The answer of reading that the code gives as a file or as a refusal.
use Rattle.std.specs.Prelude.{Result, Ok, Err}
use Rattle.refusals.specs.declared.Refusal.{Refusal}
use Rattle.refusals.specs.inner.Numbers.{refusal_number}
use Rattle.blockfile.specs.declared.Loaded.{Loaded}
use Rattle.blockfile.specs.Format.{Read, refusal}

unfoldable pub answer_of : Result Loaded Refusal → Read
answer_of (Ok o) = record { number = 0; nx = o.lattice.sizes.nx; ny = o.lattice.sizes.ny; nz = o.lattice.sizes.nz; end = o.end }
answer_of (Err e) = refusal (refusal_number e)
