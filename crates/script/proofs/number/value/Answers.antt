use Rattle.std.proofs.Common.{◌≤◌, arith}
use Rattle.script.specs.Numbers.{decimal}
use Rattle.script.proofs.Decimals.{decimal_least}
use Rattle.script.proofs.number.value.Goals as goal

pub returns-in_err-checked_mul : goal.returns-in_err-checked_mul
returns-in_err-checked_mul c =
    let least = decimal_least c.loop-octet.value c.args.digits.now c.loop-octet.octet-index _ c.loop-octet-test.true c.loop-octet.invariant in
    let large : 18446744073709551616 ≤ decimal 0 c.args.digits.now = omega (arith, c.in_err-checked_mul.ensures) in
    rw c.from_residual.ensures large

pub returns-in_err-value : goal.returns-in_err-value
returns-in_err-value c =
    let least = decimal_least c.loop-octet.value c.args.digits.now c.loop-octet.octet-index _ c.loop-octet-test.true c.loop-octet.invariant in
    let large : 18446744073709551616 ≤ decimal 0 c.args.digits.now = omega (arith, c.in_err-value.ensures, c.in_ok-checked_mul.ensures) in
    rw c.from_residual-in_err-value.ensures large
