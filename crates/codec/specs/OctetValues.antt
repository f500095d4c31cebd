-- Values that an octet stands for.
use Rattle.std.specs.Prelude.{ℕ, Some, None, Ok, Err, Option, Result}
use Rattle.codec.specs.declared.octet_value.UnknownOctet.{UnknownOctet}

-- The value that an octet stands for, or the octet where it stands for none.
abbrev pub known : {X : Type 0} → Option X → ℕ → Result X UnknownOctet
known (Some x) n = Ok x
known None n = Err (record { octet = n })
