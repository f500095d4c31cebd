-- The shape of a memory.
use Rattle.std.specs.Prelude.{length}
use Rattle.piles.specs.declared.memory.BottomMemory.{BottomMemory}
use Rattle.piles.specs.declared.shape.BottomShape.{BottomShape}

-- The sizes of the memory of a bottom.
abbrev pub bottom_shape : BottomMemory → BottomShape
bottom_shape m =
    record {
      limit = m.limit;
      slot_octets = length m.slot_octets.items;
      slot_width = m.slot_width;
      slot_notes = length m.slot_notes.items;
      packed_octets = length m.packed_octets.items;
    }
