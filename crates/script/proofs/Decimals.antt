-- The number that decimal digits say, digit by digit.
use Rattle.std.proofs.Common.{◌≡◌, ℕ, ◌+◌, ◌-◌, ◌*◌, ◌<◌, ◌≤◌, List, [], ◌∷◌, length, get_or, drop, add-one, arith, drop-cons, true, Ok, Err}
use Rattle.std.specs.List.{list_all}
use Rattle.std.specs.Char.{is_ascii_digit}
use Rattle.std.proofs.lemmas.Bool.{le-leb, lt-leb}
use Rattle.script.specs.declared.number.NumberFault.TheVariants.{TooLarge}
use Rattle.script.specs.Numbers.{decimal, number_answer}

pub decimal_grows : (v : ℕ) (os : List ℕ) → v ≤ decimal v os
decimal_grows v [] = omega arith
decimal_grows v (o ∷ os) = let more = decimal_grows (v * 10 + (o - 48)) os in omega arith

pub decimal_on : (v : ℕ) (os : List ℕ) (i : ℕ) → i < length os → decimal v (drop i os) ≡ decimal (v * 10 + (get_or os i 0 - 48)) (drop (i + 1) os)
decimal_on v os i h = rw (drop-cons os i 0 h, add-one)

pub decimal_least : (v : ℕ) (os : List ℕ) (i total : ℕ) → i < length os → decimal v (drop i os) ≡ total → v * 10 + (get_or os i 0 - 48) ≤ total
decimal_least v os i total h e = let on = decimal_on v os i h in let more = decimal_grows (v * 10 + (get_or os i 0 - 48)) (drop (i + 1) os) in omega arith

module _ (word : List ℕ) (most : ℕ) (digits : list_all is_ascii_digit word ≡ true) where
  pub taken : decimal 0 word ≤ most → Ok (decimal 0 word) ≡ number_answer word most
  taken h = let fits = le-leb (decimal 0 word) most h in rw (digits, fits)

  pub too_large : most < decimal 0 word → Err TooLarge ≡ number_answer word most
  too_large h = let past = lt-leb (decimal 0 word) most h in rw (digits, past)
