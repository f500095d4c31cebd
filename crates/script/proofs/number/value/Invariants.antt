use Rattle.std.proofs.Common.{◌≡◌, drop}
use Rattle.script.specs.Numbers.{decimal}
use Rattle.script.proofs.number.value.Given as goal

abbrev pub invariant-loop-octet : goal.invariant-loop-octet
invariant-loop-octet l = decimal l.value (drop l.octet-index l.digits) ≡ decimal 0 l.digits
