-- No bit is set where every word is 0. Assumes nothing.
use mathlib.Core.Path.{refl}
use native.Mathlib.Omega.{arith}
use Rattle.bitmap.proofs.Tables.{all_clear}
use Rattle.bitmap.proofs.clear.Goals as goal

pub returns : goal.returns
returns c =
    record {
      long = c.fill.ensures.len;
      is = all_clear _ (λ w l. c.fill.ensures.clones w 0 (omega (arith, c.fill.ensures.len)) refl);
    }
