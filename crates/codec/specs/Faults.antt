-- Faults: the letter of each kind, and a fault as it is printed.
use Rattle.std.specs.Prelude.{ℕ, List, ◌∷◌}
use Rattle.std.specs.Fmt.{decimal}
use Rattle.codec.specs.declared.fault.Fault.{Fault}
use Rattle.codec.specs.declared.fault.FaultKind.{FaultKind}
use Rattle.codec.specs.declared.fault.FaultKind.TheVariants.{Short, Mark, Value, Extra}

-- S, M, V and E, each by its character code.
abbrev pub letter_of : FaultKind → ℕ
letter_of Short = 83
letter_of Mark = 77
letter_of Value = 86
letter_of Extra = 69

-- The letter, a space and the place in decimal digits.
abbrev pub fault_text : Fault → List ℕ
fault_text f = letter_of f.kind ∷ 32 ∷ decimal f.place
