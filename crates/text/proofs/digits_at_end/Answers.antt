use Rattle.std.proofs.Common.{◌≡◌, ◌<◌, ◌≤◌, ◌-◌, suc, length, length-set, arith}
use Rattle.text.proofs.Decimal.{all_left, digit_left, last_left, tens_left}
use Rattle.text.proofs.digits_at_end.Goals as goal

pub loop-rest-init : goal.loop-rest-init
loop-rest-init c = (omega arith, omega arith, all_left c.args.n c.args.digits.now (omega arith) (omega arith))

pub loop-rest-preserved : goal.loop-rest-preserved
loop-rest-preserved c =
    let l = c.loop-rest in
    let w = l.invariant in
    let many : 10 ≤ l.rest = omega arith in
    let e : suc (l.first - 1) ≡ l.first = omega (arith, tens_left c.args.n l.first l.rest l.digits w.2 many) in
    let room : l.first < length l.digits = omega arith in
    (omega arith, simp length-set w.1, rw e (digit_left c.args.n l.first l.rest l.digits w.2 room many))

pub returns-clause-digits : goal.returns-clause-digits
returns-clause-digits c =
    let l = c.loop-rest in
    last_left c.args.n l.first l.rest l.digits l.invariant.2 (omega arith) (omega arith)
