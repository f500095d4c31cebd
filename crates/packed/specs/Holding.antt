-- What a packed queue holds, and in how many octets.
use Rattle.std.specs.Prelude.{ℕ, List}
use Rattle.ring.specs.Rings.{elements, size}
use Rattle.packed.specs.declared.packed.Packed.{Packed}
use Rattle.packed.specs.Packing.{unpacked}

-- The held records, oldest first.
abbrev pub held_in : Packed → List (List ℕ)
held_in q = unpacked q.count (elements q.ring)

-- The octets that the queue was made of.
abbrev pub octets_in : Packed → ℕ
octets_in q = size q.ring
