-- A text cut into lines.
use Rattle.std.specs.Prelude.{◌≡◌, ℕ, ◌+◌, Bool, min, List, [], ◌∷◌, Some, None, Option, ◌==◌}
use Rattle.std.specs.List.{before_first, after_first}
use Rattle.script.specs.declared.lines.Line.{Line}

-- A line ends before the octet 10.
abbrev pub ends_line : ℕ → Bool
ends_line o = o == 10

-- The first line, without its end.
abbrev pub first_line : List ℕ → Option (List ℕ)
first_line [] = None
first_line (o ∷ os) = Some (before_first ends_line (o ∷ os))

-- What stands behind the first line and its end.
abbrev pub after_line : List ℕ → List ℕ
after_line os = after_first ends_line os

abbrev pub line_text : Option Line → Option (List ℕ)
line_text (Some l) = Some l.text.now
line_text None = None

-- The largest number of a line; those behind it bear it too.
abbrev pub number_limit : ℕ
number_limit = 18446744073709551615

-- How many lines were handed out, this many before and one more where the text has one.
abbrev pub number_after : ℕ → List ℕ → ℕ
number_after n [] = n
number_after n (o ∷ os) = min (n + 1) number_limit

-- A line bears this number.
abbrev pub Numbered : Option Line → ℕ → Type 0
Numbered (Some l) n = l.number ≡ n
Numbered None n = Unit {0}
