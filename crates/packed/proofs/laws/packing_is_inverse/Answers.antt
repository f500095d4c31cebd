use Rattle.packed.proofs.Packs.{unpacked_packed}
use Rattle.packed.proofs.laws.packing_is_inverse.Goals as goal

pub returns : goal.returns
returns c = record { records = unpacked_packed; octets = λ q. q.whole }
