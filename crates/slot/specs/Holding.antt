-- What a slot queue holds, and its slots.
use Rattle.std.specs.Prelude.{ℕ, List, map}
use Rattle.ring.specs.Memories.{contents}
use Rattle.ring.specs.Rings.{elements}
use Rattle.slot.specs.declared.slotted.Slotted.{Slotted}
use Rattle.slot.specs.Slots.{noted}

-- The held records, oldest first.
abbrev pub held_in : Slotted → List (List ℕ)
held_in q = map (noted (contents q.octets)) (elements q.notes)

-- The number of slots.
abbrev pub slots_in : Slotted → ℕ
slots_in q = q.slots

-- The octets of a slot.
abbrev pub width_in : Slotted → ℕ
width_in q = q.width
