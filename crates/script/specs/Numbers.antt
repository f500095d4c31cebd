-- Decimal numbers.
use Rattle.std.specs.Prelude.{ℕ, ◌+◌, ◌-◌, ◌*◌, cond, List, [], ◌∷◌, Ok, Err, Result, nat_le}
use Rattle.std.specs.List.{list_all}
use Rattle.std.specs.Char.{is_ascii_digit}
use Rattle.script.specs.declared.number.NumberFault.{NumberFault}
use Rattle.script.specs.declared.number.NumberFault.TheVariants.{NotDecimal, TooLarge}

-- The number that decimal digits say behind those already read.
abbrev pub decimal : ℕ → List ℕ → ℕ
decimal v [] = v
decimal v (o ∷ os) = decimal (v * 10 + (o - 48)) os

abbrev pub number_answer : List ℕ → ℕ → Result ℕ NumberFault
number_answer word most =
    cond (list_all is_ascii_digit word)
    (cond (nat_le (decimal 0 word) most) (Ok (decimal 0 word)) (Err TooLarge))
    (Err NotDecimal)
