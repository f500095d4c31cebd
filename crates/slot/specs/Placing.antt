-- Which slots the records take: what a slot queue keeps true of its notes. No call's meaning depends on it.
use Rattle.std.specs.Prelude.{ℕ, zero, suc, ◌+◌, ◌*◌, Bool, true, cond, ◌&&◌, List, [], ◌∷◌, ◌==◌, nat_le, nat_lt}
use Rattle.slot.specs.declared.note.SlotNote.{SlotNote}

-- The slot after this one, going round.
abbrev pub onward : ℕ → ℕ → ℕ
onward slots slot = cond (nat_lt (slot + 1) slots) (slot + 1) 0

-- The slot that many further.
abbrev pub slot_after : ℕ → ℕ → ℕ → ℕ
slot_after slots slot zero = slot
slot_after slots slot (suc k) = slot_after slots (onward slots slot) k

-- The notes take the slots of this width in turn, from a slot on, and no record is longer than a slot.
abbrev pub in_turn : ℕ → ℕ → ℕ → List SlotNote → Bool
in_turn slots width slot [] = true
in_turn slots width slot (n ∷ ns) = n.place == slot * width && (nat_le n.length width && in_turn slots width (onward slots slot) ns)
