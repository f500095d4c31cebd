-- Records packed one after the other, each behind its length in two octets, the high octet first.
use Rattle.std.specs.Prelude.{ℕ, zero, suc, ◌+◌, ◌-◌, ◌*◌, ◌/◌, ◌%◌, min, Bool, ◌&&◌, List, [], ◌∷◌, ◌++◌, length, take, drop, nat_le}
use Rattle.queue.specs.Answers.{fair, length_limit}

-- The octets of a length.
abbrev pub head_size : ℕ
head_size = 2

-- Records as octets: of each record its length's two octets, then its own.
abbrev pub packed : List (List ℕ) → List ℕ
packed [] = []
packed (r ∷ rs) = (length r / 256) ∷ ((length r % 256) ∷ (r ++ packed rs))

-- The first k records that are packed in a list of octets.
abbrev pub unpacked : ℕ → List ℕ → List (List ℕ)
unpacked zero xs = []
unpacked (suc k) [] = []
unpacked (suc k) (h ∷ []) = []
unpacked (suc k) (h ∷ (l ∷ xs)) = take (h * 256 + l) xs ∷ unpacked k (drop (h * 256 + l) xs)

-- How many octets records take up when packed.
abbrev pub packed_size : List (List ℕ) → ℕ
packed_size [] = 0
packed_size (r ∷ rs) = (length r + head_size) + packed_size rs

-- The largest length of a queue of this many octets.
abbrev pub packed_largest : ℕ → ℕ
packed_largest octets = min (octets - head_size) length_limit

-- Room for a record of n octets where this many octets are taken up.
abbrev pub room_beside : ℕ → ℕ → ℕ → Bool
room_beside octets taken n = fair (packed_largest octets) n && nat_le (taken + (n + head_size)) octets

-- Room for a record of n octets beside those held, in this many octets.
abbrev pub packed_room : ℕ → List (List ℕ) → ℕ → Bool
packed_room octets held n = room_beside octets (packed_size held) n
