-- A script's text: octets, cut into lines, and lines cut into words.
use Rattle.std.specs.Borrow.{Bor}
use Rattle.std.specs.Prelude.{◌≡◌, ℕ, Bool, false, not, ◌||◌, List, [], ◌∷◌, drop, Some, None, Option, ◌==◌}
use Rattle.std.specs.List.{position_or_len, before_first}

-- A space, a tabulator or a carriage return stands between words.
abbrev pub blank : ℕ → Bool
blank o = o == 32 || (o == 9 || o == 13)

-- The text from the first octet that passes on, or nothing where none does.
abbrev pub from_first : (ℕ → Bool) → List ℕ → List ℕ
from_first p os = drop (position_or_len p os) os

-- The text cut where the first octet passes.
abbrev pub IsCutAtFirst : (ℕ → Bool) → List ℕ → List ℕ → List ℕ → Type 0
IsCutAtFirst p os front back = (front ≡ before_first p os) × (back ≡ from_first p os)

-- The text behind its leading blanks.
abbrev pub behind_blanks : List ℕ → List ℕ
behind_blanks os = from_first (λ o. not (blank o)) os

abbrev pub nonempty : List ℕ → Option (List ℕ)
nonempty [] = None
nonempty (o ∷ os) = Some (o ∷ os)

-- The first word, and what stands behind it.
abbrev pub first_word : List ℕ → Option (List ℕ)
first_word os = nonempty (before_first blank (behind_blanks os))

abbrev pub after_word : List ℕ → List ℕ
after_word os = from_first blank (behind_blanks os)

abbrev pub text_in : Option (Bor (List ℕ)) → Option (List ℕ)
text_in (Some t) = Some t.now
text_in None = None

-- A word that is not the beginning of a comment.
abbrev pub begins_call : List ℕ → Bool
begins_call [] = false
begins_call (o ∷ os) = not (o == 35)
