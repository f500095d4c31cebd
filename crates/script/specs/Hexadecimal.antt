-- Octets written by two hexadecimal digits each.
use Rattle.std.specs.Prelude.{◌≡◌, ℕ, ◌+◌, ◌-◌, ◌*◌, ◌/◌, ◌%◌, ◌<◌, cond, ◌&&◌, List, [], ◌∷◌, Some, None, Option, nat_le, nat_lt}
use Rattle.std.specs.List.{AllByRecursion}

-- The value of a digit of either case.
abbrev pub digit_value : ℕ → Option ℕ
digit_value o =
    cond (nat_le 48 o && nat_le o 57) (Some (o - 48))
    (cond (nat_le 97 o && nat_le o 102) (Some (o - 87))
    (cond (nat_le 65 o && nat_le o 70) (Some (o - 55))
    None))

abbrev pub in_front : Option ℕ → Option ℕ → Option (List ℕ) → Option (List ℕ)
in_front (Some high) (Some low) (Some os) = Some ((high * 16 + low) ∷ os)
in_front (Some high) (Some low) None = None
in_front (Some high) None os = None
in_front None low os = None

-- The octets that digits say, high digit first.
abbrev pub octets_of_digits : List ℕ → Option (List ℕ)
octets_of_digits [] = Some []
octets_of_digits (a ∷ []) = None
octets_of_digits (a ∷ (b ∷ ds)) = in_front (digit_value a) (digit_value b) (octets_of_digits ds)

-- A digit in lower case.
abbrev pub digit_of : ℕ → ℕ
digit_of n = cond (nat_lt n 10) (n + 48) (n + 87)

abbrev pub digits_of_octets : List ℕ → List ℕ
digits_of_octets [] = []
digits_of_octets (o ∷ os) = digit_of (o / 16) ∷ (digit_of (o % 16) ∷ digits_of_octets os)

-- No octets are written as a dash.
abbrev pub hexadecimal_text : List ℕ → List ℕ
hexadecimal_text [] = 45 ∷ []
hexadecimal_text (o ∷ os) = digits_of_octets (o ∷ os)

-- What was written is read back.
abbrev pub OctetsReadBack : Type 0
OctetsReadBack = (os : List ℕ) → AllByRecursion (λ o. o < 256) os → octets_of_digits (digits_of_octets os) ≡ Some os
