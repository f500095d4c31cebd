-- Runs of octets of one class at the front of a text.
use Rattle.std.specs.Prelude.{ℕ, suc, Bool, cond, not, ◌&&◌, List, [], ◌∷◌, ◌==◌, nat_le}
use Rattle.script.specs.declared.run.Class.{Class}
use Rattle.script.specs.declared.run.Class.TheVariants.{Blank, Word, Line, Digit}
use Rattle.script.specs.Text.{blank}

-- A line ends before the octet 10.
abbrev pub in_class : Class → ℕ → Bool
in_class Blank o = blank o
in_class Word o = not (blank o)
in_class Line o = not (o == 10)
in_class Digit o = nat_le 48 o && nat_le o 57

-- How many octets at the front are of the class.
abbrev pub run_length : Class → List ℕ → ℕ
run_length k [] = 0
run_length k (o ∷ os) = cond (in_class k o) (suc (run_length k os)) 0
