-- That packing and unpacking are inverse, and what fits into ten octets.
use Rattle.std.specs.Prelude.{◌≡◌, ℕ, List, [], ◌∷◌, length}
use Rattle.ring.specs.Rings.{elements}
use Rattle.queue.specs.Answers.{Answer, gives, refuses}
use Rattle.packed.specs.declared.packed.Packed.{Packed}
use Rattle.packed.specs.Packing.{packed, unpacked}
use Rattle.packed.specs.Holding.{held_in}

-- Records that are packed come out again.
abbrev pub Unpacks : Type 0
Unpacks = (rs : List (List ℕ)) → unpacked (length rs) (packed rs) ≡ rs

-- A queue's octets are its records packed, and nothing else.
abbrev pub Repacks : Type 0
Repacks = (q : Packed) → packed (held_in q) ≡ elements q.ring

-- In ten octets two records of 3 fit, and one of 1 besides only after a drop.
abbrev pub ten_octets_answers : List (Answer (Unit {0}))
ten_octets_answers = gives tt ∷ (gives tt ∷ (refuses 33 ∷ (gives tt ∷ (gives tt ∷ []))))
