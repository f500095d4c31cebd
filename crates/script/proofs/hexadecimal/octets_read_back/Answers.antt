use Rattle.script.proofs.Digits.{octets_back}
use Rattle.script.proofs.hexadecimal.octets_read_back.Goals as goal

pub returns : goal.returns
returns c = octets_back
