-- What is left of a line's words.
use Rattle.std.specs.Prelude.{ℕ, List, [], cond, length, Some, Option, codes}
use Rattle.std.specs.Str.{bytes_eq}
use Rattle.script.specs.Hexadecimal.{octets_of_digits}
use Rattle.script.specs.declared.arguments.Arguments.{Arguments}

-- How many octets of the line are left.
abbrev pub octets_left : Arguments → ℕ
octets_left a = length a.words.rest.now

-- The octets that a word says: none by a dash, else each by two digits.
abbrev pub octets_said : List ℕ → Option (List ℕ)
octets_said word = cond (bytes_eq word (codes "-")) (Some []) (octets_of_digits word)
