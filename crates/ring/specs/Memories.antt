-- What lent memory contains.
use Rattle.std.specs.Prelude.{List}
use Rattle.ring.specs.declared.memory.Memory.{Memory}

-- The elements of the memory, from its first place on.
abbrev pub contents : {X : Type 0} → Memory X → List X
contents m = m.slots.now
