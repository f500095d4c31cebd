-- Octets among the numbers.
use Rattle.std.specs.Prelude.{ℕ, ◌<◌, List, slice_index}

-- Numbers each of which is an octet, as those of every slice of octets are.
abbrev pub Octets : List ℕ → Type 0
Octets xs = (k : ℕ) → slice_index xs k < 256
