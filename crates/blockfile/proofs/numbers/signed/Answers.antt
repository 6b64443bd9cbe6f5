-- The machine's reading of sixteen bits. Assumes nothing.
use native.Mathlib.Omega.{arith}
use mathlib.Core.Path.{◌∙◌}
use mir.Syntax.{w16}
use mir.ValLaws.{to_z-of_z}
use Rattle.blockfile.proofs.Signed.{signed_is}
use Rattle.blockfile.proofs.numbers.signed.Goals as goal

pub returns : goal.returns
returns c = to_z-of_z w16 _ (record { sfits = c.cast_signed.type_inv }) ∙ c.cast_signed.ensures ∙ signed_is _ (omega arith)
