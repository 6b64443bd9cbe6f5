-- 0.0 is the positive zero. Assumes nothing. (`neg` is opened so that a negative zero would be computed and seen.)
use mathlib.Core.Path.{refl}
use lib.Ieee.{neg, of_bits}
use Rattle.scale.proofs.refused.Goals as goal

pub returns : goal.returns
unfolding neg of_bits
returns c = refl
