-- What is left of the number is found from the last digit on.
use Rattle.std.proofs.Common.{◌≡◌, ◌<◌, suc, length}
use Rattle.text.proofs.Decimal.{Found}
use Rattle.text.proofs.digits_at_end.Given as goal

abbrev pub invariant-loop-rest : goal.invariant-loop-rest
invariant-loop-rest l = (l.first < 20) × (length l.digits ≡ 20) × Found l.n (suc l.first) l.rest l.digits

abbrev pub decreases-loop-rest : goal.decreases-loop-rest
decreases-loop-rest l = l.rest
