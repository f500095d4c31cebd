use Rattle.std.proofs.Common.{◌≡◌, length, vec_items}
use Rattle.script.specs.Hexadecimal.{octets_of_digits}
use Rattle.script.proofs.Digits.{onto}
use Rattle.script.proofs.hexadecimal.octets.Given as goal

abbrev pub invariant-loop-rest : goal.invariant-loop-rest
invariant-loop-rest l = onto (vec_items l.octets) (octets_of_digits l.rest) ≡ octets_of_digits l.word

abbrev pub decreases-loop-rest : goal.decreases-loop-rest
decreases-loop-rest l = length l.rest
