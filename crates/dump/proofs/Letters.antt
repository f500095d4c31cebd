-- The letter of a fault, as text.
use Rattle.std.proofs.Common.{◌≡◌, [], ◌∷◌, refl}
use lib.Utf8.{encode}
use Rattle.codec.specs.Faults.{letter_of}
use Rattle.codec.specs.declared.fault.FaultKind.{FaultKind}
use Rattle.codec.specs.declared.fault.FaultKind.TheVariants.{Short, Mark, Value, Extra}

pub letter_text : (k : FaultKind) → encode (letter_of k) ≡ letter_of k ∷ []
unfolding encode
letter_text Short = refl
letter_text Mark = refl
letter_text Value = refl
letter_text Extra = refl
