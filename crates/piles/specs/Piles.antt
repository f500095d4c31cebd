-- The queue over a memory.
use Rattle.std.specs.Prelude.{◌≡◌, [], length}
use Rattle.layers.specs.declared.quota.Quota.{Quota}
use Rattle.layers.specs.declared.tandem.Tandem.{Tandem}
use Rattle.packed.specs.declared.packed.Packed.{Packed}
use Rattle.packed.specs.Holding.{held_in as packed_held, octets_in}
use Rattle.slot.specs.declared.slotted.Slotted.{Slotted}
use Rattle.slot.specs.Holding.{held_in as slot_held, slots_in, width_in}
use Rattle.slot.specs.Slots.{slots_of}
use Rattle.piles.specs.declared.memory.BottomMemory.{BottomMemory}
use Rattle.piles.specs.declared.pair.Pair.{Pair}
use Rattle.piles.specs.Limits.{quota_of}

-- A bottom: a quota over a slot queue and a packed queue in tandem.
abbrev pub Bottom : Type 0
Bottom = Quota (Tandem Slotted Packed)

-- An empty bottom whose quota, slots and octets are those of the memory.
pub record IsBottomOver (m : BottomMemory) (q : Bottom) : Type 0 where
  pub limit : q.limit ≡ quota_of m.limit
  pub slots : slots_in q.below.near ≡ slots_of (length m.slot_notes.items) (length m.slot_octets.items) m.slot_width
  pub width : width_in q.below.near ≡ m.slot_width
  pub octets : octets_in q.below.far ≡ length m.packed_octets.items
  pub no_slot : slot_held q.below.near ≡ []
  pub no_packed : packed_held q.below.far ≡ []

-- Two bottoms in tandem under a quota, each over its part of the memory.
pub record IsHalfOver (m : Pair BottomMemory) (q : Quota (Tandem Bottom Bottom)) : Type 0 where
  pub limit : q.limit ≡ quota_of m.limit
  pub near : IsBottomOver m.near q.below.near
  pub far : IsBottomOver m.far q.below.far

-- Two halves in tandem under a quota, each over its part of the memory.
pub record IsPileOver (m : Pair (Pair BottomMemory)) (q : Quota (Tandem (Quota (Tandem Bottom Bottom)) (Quota (Tandem Bottom Bottom)))) : Type 0 where
  pub limit : q.limit ≡ quota_of m.limit
  pub near : IsHalfOver m.near q.below.near
  pub far : IsHalfOver m.far q.below.far
